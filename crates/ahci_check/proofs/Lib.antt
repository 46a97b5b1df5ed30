pub mod AgreementLemmas
pub mod ComplaintLemmas
pub mod JobLemmas
pub mod JsonLemmas
pub mod RefusedLemmas
pub mod ReportLemmas
pub mod TagLemmas
pub mod WindowLemmas
