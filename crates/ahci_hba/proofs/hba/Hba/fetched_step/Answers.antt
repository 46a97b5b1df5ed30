use Rattle.std.proofs.Common.{true, false, is_some, ap, refl, sym, ◌∙◌}
use Rattle.ahci_hba.proofs.OutlookLemmas.{fetched_is}
use Rattle.ahci_hba.proofs.hba.Hba.fetched_step.Goals as goal

pub returns-then-is_some : goal.returns-then-is_some
returns-then-is_some g c =
    fetched_is c.args.self.now c.args.slot c.args.action.now c.args.bytes.now c.requires.outlook.listening c.requires.fetched c.requires.action c.requires.bytes
    true _ _ _ _
    (c.if-is_some.ensures ∙ ap is_some c.control_of.ensures) refl refl refl refl

pub returns-then-not-outlook : goal.returns-then-not-outlook
returns-then-not-outlook g c =
    fetched_is c.args.self.now c.args.slot c.args.action.now c.args.bytes.now c.requires.outlook.listening c.requires.fetched c.requires.action c.requires.bytes
    false false _ _ _
    (c.if-is_some.ensures ∙ ap is_some c.control_of.ensures) (sym c.if-not-outlook.true ∙ c.requires.outlook.ready) refl refl refl

pub returns-then-is_answered : goal.returns-then-is_answered
returns-then-is_answered g c =
    fetched_is c.args.self.now c.args.slot c.args.action.now c.args.bytes.now c.requires.outlook.listening c.requires.fetched c.requires.action c.requires.bytes
    false true true _ _
    (c.if-is_some.ensures ∙ ap is_some c.control_of.ensures) (sym c.if-not-outlook.false ∙ c.requires.outlook.ready) c.if-is_answered.ensures refl refl

pub returns-then-recovers_by : goal.returns-then-recovers_by
returns-then-recovers_by g c =
    fetched_is c.args.self.now c.args.slot c.args.action.now c.args.bytes.now c.requires.outlook.listening c.requires.fetched c.requires.action c.requires.bytes
    false true false true _
    (c.if-is_some.ensures ∙ ap is_some c.control_of.ensures) (sym c.if-not-outlook.false ∙ c.requires.outlook.ready) c.if-is_answered.ensures c.if-recovers_by.ensures refl

pub returns-then-is_taken_by_port : goal.returns-then-is_taken_by_port
returns-then-is_taken_by_port g c =
    fetched_is c.args.self.now c.args.slot c.args.action.now c.args.bytes.now c.requires.outlook.listening c.requires.fetched c.requires.action c.requires.bytes
    false true false false true
    (c.if-is_some.ensures ∙ ap is_some c.control_of.ensures) (sym c.if-not-outlook.false ∙ c.requires.outlook.ready) c.if-is_answered.ensures c.if-recovers_by.ensures c.if-is_taken_by_port.ensures

pub returns-else-is_taken_by_port : goal.returns-else-is_taken_by_port
returns-else-is_taken_by_port g c =
    fetched_is c.args.self.now c.args.slot c.args.action.now c.args.bytes.now c.requires.outlook.listening c.requires.fetched c.requires.action c.requires.bytes
    false true false false false
    (c.if-is_some.ensures ∙ ap is_some c.control_of.ensures) (sym c.if-not-outlook.false ∙ c.requires.outlook.ready) c.if-is_answered.ensures c.if-recovers_by.ensures c.if-is_taken_by_port.ensures
