-- The registers that software writes for a command, one after the other (AHCI 1.3.1, sections 5.5.1, "Building a Command", and
-- 6.2.2, the recovery of a port whose command has failed). What an acknowledgement writes is said by its own line.
use Rattle.std.specs.Prelude.{ℕ, ◌^◌, nat_lt, if◌then◌else◌, List, [], ◌∷◌, Option, Some}
use Rattle.ahci_regs.specs.declared.register.Register.{Register}
use Rattle.ahci_regs.specs.declared.register.Register.TheVariants.{PxIs, PxCmd, PxSerr, PxSact, PxCi}
use Rattle.ncq_journal.specs.declared.event_kind.EventKind.{EventKind}
use Rattle.ncq_journal.specs.declared.event_kind.EventKind.TheVariants as what
use Rattle.ahci_trace.specs.declared.register_write.RegisterWrite.{RegisterWrite}

abbrev pub write : Register → ℕ → RegisterWrite
write register word = record { register = register; word = word }

-- a slot's command is issued: PxSACT, then PxCI. A port has 32 slots
abbrev pub issuing : ℕ → List RegisterWrite
issuing tag = if nat_lt tag 32 then write PxSact (2 ^ tag) ∷ write PxCi (2 ^ tag) ∷ [] else []

-- a command that is not queued is sent by slot 0
abbrev pub sending : List RegisterWrite
sending = write PxCi 1 ∷ []

-- a port is recovered: ST off, PxSERR and PxIS cleared, ST on, and READ LOG EXT is sent
abbrev pub recovering : List RegisterWrite
recovering = write PxCmd 0x10 ∷ write PxSerr 0xffffffff ∷ write PxIs 0xffffffff ∷ write PxCmd 0x11 ∷ sending

-- what software has written for the command whose newest entry this is
abbrev pub writes_by : Option EventKind → List RegisterWrite
writes_by (Some (what.Issue tag write lba sectors)) = issuing tag
writes_by (Some (what.Reissue tag)) = issuing tag
writes_by (Some (what.Recover tag)) = recovering
writes_by (Some (what.Plain command)) = sending
writes_by newest = []
