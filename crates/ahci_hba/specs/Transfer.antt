-- A transfer by PIO, block by block (Serial ATA, "PIO Setup"; ACS-3, "PIO data-in command protocol" and "PIO data-out command protocol").
use Rattle.std.specs.Prelude.{ℕ, ◌+◌, ◌-◌, ◌*◌, Bool, false, not, ◌||◌, ◌&&◌, min, nat_le, nat_lt, List, Option, None, Some, is_some, if◌then◌else◌}
use Rattle.sata_fis.specs.Fields.{D2hFields}
use Rattle.hba_command.specs.declared.entry.PrdEntry.{PrdEntry}
use Rattle.hba_command.specs.declared.host_page.HostPage.{HostPage}
use Rattle.hba_memory.specs.Blocks.{BlocksView, after_block, block_list}
use Rattle.hba_memory.specs.Processing.{has_processed}
use Rattle.hba_memory.specs.Runs.{total}

-- how many sectors a block has at most, the blocks that are done, the sectors that are left with their list, and the data of a read, and the D2H
-- Register FIS that ends it, but for a read that its last block ends
pub record TransferView : Type 0 where
  pub slot : ℕ
  pub write : Bool
  pub most : ℕ
  pub done : ℕ
  pub left : ℕ
  -- how many bytes have moved, whether the list had no room for the whole last block, and whether this one had the last byte of an entry with I
  pub moved : ℕ
  pub short : Bool
  pub processed : Bool
  pub rest : BlocksView
  pub finish : Option D2hFields
  -- the host's logs once it ends, if it writes one
  pub logs : Option (List HostPage)

-- a list has room for so many bytes
abbrev pub fits : ℕ → List PrdEntry → Bool
fits n list = nat_le n (total list)

-- and how many of them move
abbrev pub moved_to : ℕ → List PrdEntry → ℕ
moved_to n list = min n (total list)

-- a PIO Setup FIS has I, but for the one before the first block of a write; that block is done now
abbrev pub has_interrupt : TransferView → Bool
has_interrupt t = not t.write || nat_lt 1 t.done

-- how many sectors the next block has: the last one has those that are left (ACS-3, "READ MULTIPLE" and "WRITE MULTIPLE")
abbrev pub next_sectors : TransferView → ℕ
next_sectors t = min t.most t.left

-- the next block ends a read, in which nothing has failed
abbrev pub is_last : TransferView → Bool
is_last t = nat_le t.left t.most && not (is_some t.finish)

-- so many sectors come, in blocks of at most so many
abbrev pub first_block : ℕ → Bool → (n most : ℕ) → BlocksView → Option D2hFields → TransferView
first_block slot write n most rest finish =
    record { slot = slot; write = write; most = most; done = 0; left = n; moved = 0; short = false; processed = false; rest = rest; finish = finish; logs = None }

-- once it ends, the host's logs are these
abbrev pub writing_log : TransferView → List HostPage → TransferView
writing_log t logs = record t { logs = Some logs }

-- a block to the driver comes next
abbrev pub sends_block : TransferView → Bool
sends_block t = not t.write && nat_lt 0 t.left

-- how many bytes the next block moves, of a read those that the list has room for; and how many have moved then
abbrev pub next_list : TransferView → List PrdEntry
next_list t = block_list t.rest (next_sectors t)

abbrev pub moved_next : TransferView → ℕ
moved_next t = if t.write then 512 * next_sectors t else moved_to (512 * next_sectors t) (next_list t)

abbrev pub moved_so_far : TransferView → ℕ
moved_so_far t = t.moved + moved_next t

-- whether the next block has the last byte of an entry with I
abbrev pub next_processes : TransferView → Bool
next_processes t = has_processed (next_list t) (512 * next_sectors t)

-- the device goes on to the next block: of a write, whose data are there, with no byte to the driver
abbrev pub next_block : TransferView → TransferView
next_block t = record t {
  done = t.done + 1;
  left = t.left - next_sectors t;
  moved = moved_so_far t;
  short = not t.write && not (fits (512 * next_sectors t) (next_list t));
  processed = next_processes t;
  rest = after_block t.rest (next_sectors t);
}
