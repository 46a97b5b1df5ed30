-- What an HBA can do, which its CAP shows (AHCI 1.3.1, section 3.1.1, "Offset 00h: CAP").
use Rattle.std.specs.Prelude.{ℕ, ◌≤◌, true, false, ◌&&◌, nat_le, Option, Some, None, if◌then◌else◌}
use Rattle.hba_regs.specs.declared.capabilities.Capabilities.TheInside.{Inside}

-- the fields of CAP that may differ
abbrev pub CapFields : Type 0
CapFields = Inside

-- 1 to 32 command slots, and an interface of generation 1 to 3
abbrev pub IsCapable : CapFields → Type 0
IsCapable c = (1 ≤ c.ncs) × (c.ncs ≤ 32) × (1 ≤ c.iss) × (c.iss ≤ 3)

-- those of a controller that is made without a choice (profile)
abbrev pub usual : CapFields
usual = record { ncs = 32; iss = 2; s64a = true; sncq = true; sss = false; sclo = true; salp = false; pmd = true }

-- with another number of slots, and with another generation, if it is one
abbrev pub with_ncs : CapFields → ℕ → Option CapFields
with_ncs c ncs = if nat_le 1 ncs && nat_le ncs 32 then Some (record c { ncs = ncs }) else None

abbrev pub with_iss : CapFields → ℕ → Option CapFields
with_iss c iss = if nat_le 1 iss && nat_le iss 3 then Some (record c { iss = iss }) else None
