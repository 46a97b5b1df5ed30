-- The pages that the disk has ready (ACS-3, by the titles of commands and logs).
use Rattle.std.specs.Prelude.{Bool, true, false}
use Rattle.hba_command.specs.declared.addressing.Addressing.{Addressing}
use Rattle.hba_command.specs.declared.addressing.Addressing.TheVariants.{Bits28, Bits48}
use Rattle.hba_command.specs.declared.disk_page.DiskPage.{DiskPage}
use Rattle.hba_command.specs.declared.disk_page.DiskPage.TheVariants.{Directory, Errors, Tests, PhyEvents, SmartData, SmartThresholds, SmartDirectory, SmartErrors, SmartTests, Buffer}

-- a page of the SMART feature set: while it is not enabled, the command that reads the page is aborted
abbrev pub needs_smart : DiskPage → Bool
needs_smart Directory = false
needs_smart Errors = true
needs_smart Tests = true
needs_smart (PhyEvents resets) = false
needs_smart SmartData = true
needs_smart SmartThresholds = true
needs_smart SmartDirectory = true
needs_smart SmartErrors = true
needs_smart SmartTests = true
needs_smart Buffer = false

-- READ LOG EXT and READ LOG DMA EXT are commands of 48 bits; SMART, READ BUFFER and READ BUFFER DMA of 28
abbrev pub page_addressing : DiskPage → Addressing
page_addressing Directory = Bits48
page_addressing Errors = Bits48
page_addressing Tests = Bits48
page_addressing (PhyEvents resets) = Bits48
page_addressing SmartData = Bits28
page_addressing SmartThresholds = Bits28
page_addressing SmartDirectory = Bits28
page_addressing SmartErrors = Bits28
page_addressing SmartTests = Bits28
page_addressing Buffer = Bits28
