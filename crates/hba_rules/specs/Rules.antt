-- The rules, with their numbers, names and sections, and what it means to break them (AHCI 1.3.1).
use Rattle.std.specs.Prelude.{◌≢◌, ℕ, List, codes}
use Rattle.hba_rules.specs.declared.rule.Rule.{Rule}
use Rattle.hba_rules.specs.declared.rule.Rule.TheVariants as rule
use Rattle.hba_rules.specs.declared.verdict.Verdict.{Verdict}
use Rattle.hba_rules.specs.declared.verdict.Verdict.TheVariants as verdict

abbrev pub number_of : Rule → ℕ
number_of rule.StartWithoutReceiving = 0
number_of rule.StartWithReceiving = 1
number_of rule.StartWhileBusy = 2
number_of rule.StartWithoutDevice = 3
number_of rule.ReceivingClearedWhileStarted = 4
number_of rule.ListMovedWhileStarted = 5
number_of rule.AreaMovedWhileReceiving = 6
number_of rule.ClearBusyWhileStarted = 7
number_of rule.LinkChangedWhileStarted = 8
number_of rule.ReservedLinkState = 9
number_of rule.ActiveWhileStopped = 10
number_of rule.CommandWhileStopped = 11
number_of rule.CommandWhileHalted = 12
number_of rule.MixedCommands = 13
number_of rule.InterruptNotCleared = 14
number_of rule.ReservedBits = 15
number_of rule.FisLength = 16
number_of rule.NoCommandFis = 17
number_of rule.AtapiFlag = 18
number_of rule.WriteFlag = 19
number_of rule.ActiveWithoutQueue = 20
number_of rule.QueueWithoutActive = 21
number_of rule.TagNotSlot = 22
number_of rule.ReservedHeader = 23
number_of rule.TableUnaligned = 24
number_of rule.OddAddress = 25
number_of rule.EvenCount = 26
number_of rule.ListTooShort = 27
number_of rule.ListTooLong = 28
number_of rule.ListUnaligned = 29
number_of rule.AreaUnaligned = 30
number_of rule.SlotUsedAgain = 31
number_of rule.ActiveAfterIssue = 32
number_of rule.StartWithErrors = 33
number_of rule.StartWithSerr = 34
number_of rule.EnableOverStatus = 35
number_of rule.SpeedAboveInterface = 36
number_of rule.PowerWithoutCapability = 37
number_of rule.QueueWithoutCapability = 38
number_of rule.PrefetchWithQueue = 39
number_of rule.PortOfMultiplier = 40
number_of rule.BistFlag = 41
number_of rule.ResetFlags = 42
number_of rule.ReservedFis = 43
number_of rule.ReservedEntry = 44
number_of rule.SlotAboveList = 45

-- no rule has the number
abbrev pub IsNoRule : ℕ → Type 0
IsNoRule number = (r : Rule) → number_of r ≢ number

abbrev pub name_of : Rule → List ℕ
name_of rule.StartWithoutReceiving = codes "StartWithoutReceiving"
name_of rule.StartWithReceiving = codes "StartWithReceiving"
name_of rule.StartWhileBusy = codes "StartWhileBusy"
name_of rule.StartWithoutDevice = codes "StartWithoutDevice"
name_of rule.ReceivingClearedWhileStarted = codes "ReceivingClearedWhileStarted"
name_of rule.ListMovedWhileStarted = codes "ListMovedWhileStarted"
name_of rule.AreaMovedWhileReceiving = codes "AreaMovedWhileReceiving"
name_of rule.ClearBusyWhileStarted = codes "ClearBusyWhileStarted"
name_of rule.LinkChangedWhileStarted = codes "LinkChangedWhileStarted"
name_of rule.ReservedLinkState = codes "ReservedLinkState"
name_of rule.ActiveWhileStopped = codes "ActiveWhileStopped"
name_of rule.CommandWhileStopped = codes "CommandWhileStopped"
name_of rule.CommandWhileHalted = codes "CommandWhileHalted"
name_of rule.MixedCommands = codes "MixedCommands"
name_of rule.InterruptNotCleared = codes "InterruptNotCleared"
name_of rule.ReservedBits = codes "ReservedBits"
name_of rule.FisLength = codes "FisLength"
name_of rule.NoCommandFis = codes "NoCommandFis"
name_of rule.AtapiFlag = codes "AtapiFlag"
name_of rule.WriteFlag = codes "WriteFlag"
name_of rule.ActiveWithoutQueue = codes "ActiveWithoutQueue"
name_of rule.QueueWithoutActive = codes "QueueWithoutActive"
name_of rule.TagNotSlot = codes "TagNotSlot"
name_of rule.ReservedHeader = codes "ReservedHeader"
name_of rule.TableUnaligned = codes "TableUnaligned"
name_of rule.OddAddress = codes "OddAddress"
name_of rule.EvenCount = codes "EvenCount"
name_of rule.ListTooShort = codes "ListTooShort"
name_of rule.ListTooLong = codes "ListTooLong"
name_of rule.ListUnaligned = codes "ListUnaligned"
name_of rule.AreaUnaligned = codes "AreaUnaligned"
name_of rule.SlotUsedAgain = codes "SlotUsedAgain"
name_of rule.ActiveAfterIssue = codes "ActiveAfterIssue"
name_of rule.StartWithErrors = codes "StartWithErrors"
name_of rule.StartWithSerr = codes "StartWithSerr"
name_of rule.EnableOverStatus = codes "EnableOverStatus"
name_of rule.SpeedAboveInterface = codes "SpeedAboveInterface"
name_of rule.PowerWithoutCapability = codes "PowerWithoutCapability"
name_of rule.QueueWithoutCapability = codes "QueueWithoutCapability"
name_of rule.PrefetchWithQueue = codes "PrefetchWithQueue"
name_of rule.PortOfMultiplier = codes "PortOfMultiplier"
name_of rule.BistFlag = codes "BistFlag"
name_of rule.ResetFlags = codes "ResetFlags"
name_of rule.ReservedFis = codes "ReservedFis"
name_of rule.ReservedEntry = codes "ReservedEntry"
name_of rule.SlotAboveList = codes "SlotAboveList"

abbrev pub section_of : Rule → List ℕ
section_of rule.StartWithoutReceiving = codes "10.3.1"
section_of rule.StartWithReceiving = codes "10.3.1"
section_of rule.StartWhileBusy = codes "10.3.1"
section_of rule.StartWithoutDevice = codes "10.3.1"
section_of rule.ReceivingClearedWhileStarted = codes "10.3.2"
section_of rule.ListMovedWhileStarted = codes "10.3.1"
section_of rule.AreaMovedWhileReceiving = codes "3.3.7"
section_of rule.ClearBusyWhileStarted = codes "3.3.7"
section_of rule.LinkChangedWhileStarted = codes "3.3.11"
section_of rule.ReservedLinkState = codes "3.3.11"
section_of rule.ActiveWhileStopped = codes "3.3.13"
section_of rule.CommandWhileStopped = codes "3.3.14"
section_of rule.CommandWhileHalted = codes "6.2.2"
section_of rule.MixedCommands = codes "5.5.1"
section_of rule.InterruptNotCleared = codes "10.7.2"
section_of rule.ReservedBits = codes "3"
section_of rule.FisLength = codes "4.2.2"
section_of rule.NoCommandFis = codes "4.2.3"
section_of rule.AtapiFlag = codes "4.2.2"
section_of rule.WriteFlag = codes "4.2.2"
section_of rule.ActiveWithoutQueue = codes "3.3.13"
section_of rule.QueueWithoutActive = codes "5.5.1"
section_of rule.TagNotSlot = codes "3.3.13"
section_of rule.ReservedHeader = codes "4.2.2"
section_of rule.TableUnaligned = codes "4.2.2"
section_of rule.OddAddress = codes "4.2.3"
section_of rule.EvenCount = codes "4.2.3"
section_of rule.ListTooShort = codes "6.1.5"
section_of rule.ListTooLong = codes "6.1.6"
section_of rule.ListUnaligned = codes "3.3.1"
section_of rule.AreaUnaligned = codes "3.3.3"
section_of rule.SlotUsedAgain = codes "5.5.1"
section_of rule.ActiveAfterIssue = codes "3.3.13"
section_of rule.StartWithErrors = codes "6.2.2"
section_of rule.StartWithSerr = codes "10.1.2"
section_of rule.EnableOverStatus = codes "10.1.2"
section_of rule.SpeedAboveInterface = codes "3.3.11"
section_of rule.PowerWithoutCapability = codes "3.1.1"
section_of rule.QueueWithoutCapability = codes "3.1.1"
section_of rule.PrefetchWithQueue = codes "4.2.2"
section_of rule.PortOfMultiplier = codes "4.2.2"
section_of rule.BistFlag = codes "4.2.2"
section_of rule.ResetFlags = codes "10.4.1"
section_of rule.ReservedFis = codes "4.2.3"
section_of rule.ReservedEntry = codes "4.2.3"
section_of rule.SlotAboveList = codes "3.1.1"

-- the standard forbids all but these
abbrev pub verdict_of : Rule → Verdict
verdict_of rule.StartWithReceiving = verdict.Open
-- software should set PxSACT only while ST is 1
verdict_of rule.ActiveWhileStopped = verdict.Odd
verdict_of rule.CommandWhileHalted = verdict.Odd
verdict_of rule.InterruptNotCleared = verdict.Odd
verdict_of rule.ListTooLong = verdict.Odd
verdict_of rule.SpeedAboveInterface = verdict.Odd
-- without SNCQ software should issue no such commands
verdict_of rule.QueueWithoutCapability = verdict.Odd
verdict_of other = verdict.Broken
