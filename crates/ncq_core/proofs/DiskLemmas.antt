-- What holds of every disk, and that each call leaves it so.
use Rattle.std.proofs.Common.{◌≡◌, ℕ, ◌+◌, ◌*◌, ◌/◌, ◌^◌, ◌<◌, ◌≤◌, Bool, true, false, ◌&&◌, leb, ltb, List, length, map, get_or, set, Option, Some}
use Rattle.std.proofs.Common.{None, refl, ap, sym, ◌∙◌, arith, subst, inl, inr}
use Rattle.std.proofs.lemmas.Bool.{cases_lt, cases_eq, ltb-true}
use Rattle.std.proofs.lemmas.List.{get_or-replicate, get_or_past, length-replicate, get_or-set_same, get_or-set_other, set-get_or, length-set, get_or-map, length-map}
use Rattle.std.specs.Option.{is_some, IfSome}
use Rattle.word_bits.specs.Places.{places}
use Rattle.word_bits.proofs.PlacesLemmas.{same_sets, length-places, has_place-places}
use Rattle.sata_fis.specs.Fields.{QueuedFields}
use Rattle.ncq_core.specs.DiskState.{DiskState, DiskError, IsDisk, IsOutstanding, IsStanding, disk_sectors, command_of, no_commands}
use Rattle.ncq_core.specs.Serving.{covers_sector, byte_count}

pub length-no_commands : length no_commands ≡ 32
unfolding no_commands
length-no_commands = length-replicate {A = Option QueuedFields} 32 None

-- where no command is outstanding, none is at any tag
pub command_of-no_commands : (tag : ℕ) → get_or no_commands tag None ≡ None
unfolding no_commands
command_of-no_commands tag =
    elim (cases_lt tag 32) [
      | inl low ↦ get_or-replicate {A = Option QueuedFields} 32 tag None None low
      | inr high ↦ get_or_past no_commands tag None (omega (arith, length-no_commands))
    ]

-- whatever is said of the command at a tag holds where there is none
none_outstanding : (disk : DiskState) (commands : List (Option QueuedFields)) → commands ≡ no_commands → (tag : ℕ) (q : QueuedFields) → get_or commands tag None ≡ Some q → IsOutstanding disk tag q
none_outstanding disk commands none tag q found =
    let is : None ≡ Some q = sym (command_of-no_commands tag) ∙ ap (λ c. get_or c tag None) (sym none) ∙ found in absurd (cc)

pub is_disk_new : (image starting : List ℕ) (grows : Bool) (reserved : List Bool) (depth : ℕ) (none : List (Option QueuedFields)) → none ≡ no_commands
    → length image ≡ 512 * (length image / 512) → 1 ≤ length image / 512 → length image / 512 ≤ 4294967295 → 1 ≤ depth → depth ≤ 32
    → IsDisk (record { image = image; starting = starting; grows = grows; reserved = reserved; depth = depth; commands = none; error = None })
is_disk_new image starting grows reserved depth none empty whole least most deep shallow = record {
  whole = whole;
  least = least;
  most = most;
  deep = deep;
  shallow = shallow;
  count = ap length empty ∙ length-no_commands;
  each = none_outstanding (record { image = image; starting = starting; grows = grows; reserved = reserved; depth = depth; commands = none; error = None }) none empty;
  stands = λ e is. absurd (cc);
}

-- there is an error condition, and no command is left
pub is_disk_stopped : (image starting : List ℕ) (grows : Bool) (reserved : List Bool) (depth : ℕ) (commands none : List (Option QueuedFields)) (error : Option DiskError) (tag code lba : ℕ)
    → IsDisk (record { image = image; starting = starting; grows = grows; reserved = reserved; depth = depth; commands = commands; error = error }) → none ≡ no_commands
    → tag < 32 → code < 256 → lba < 2 ^ 48 → IsDisk (record { image = image; starting = starting; grows = grows; reserved = reserved; depth = depth; commands = none; error = Some (record { tag = tag; error = code; lba = lba }) })
is_disk_stopped image starting grows reserved depth commands none error tag code lba d empty low byte far =
    let e : DiskError = record { tag = tag; error = code; lba = lba } in
    let after : DiskState = record { image = image; starting = starting; grows = grows; reserved = reserved; depth = depth; commands = none; error = Some e } in
    record {
      whole = d.whole;
      least = d.least;
      most = d.most;
      deep = d.deep;
      shallow = d.shallow;
      count = ap length empty ∙ length-no_commands;
      each = none_outstanding after none empty;
      stands = λ f is. let same : e ≡ f = cc in subst (IsStanding after) same (record { tag = low; code = byte; lba = far; none = empty });
    }

-- nothing is outstanding after a reset
pub is_disk_reset : (image starting : List ℕ) (grows : Bool) (reserved : List Bool) (depth : ℕ) (commands none : List (Option QueuedFields)) (error : Option DiskError)
    → IsDisk (record { image = image; starting = starting; grows = grows; reserved = reserved; depth = depth; commands = commands; error = error }) → none ≡ no_commands
    → IsDisk (record { image = image; starting = starting; grows = grows; reserved = reserved; depth = depth; commands = none; error = None })
is_disk_reset image starting grows reserved depth commands none error d empty = is_disk_new image starting grows reserved depth none empty d.whole d.least d.most d.deep d.shallow

-- another image of the same size is there, other sectors are kept, or others are reserved
pub is_disk_moved : (image image' starting starting' : List ℕ) (grows grows' : Bool) (reserved reserved' : List Bool) (depth : ℕ) (commands : List (Option QueuedFields)) (error : Option DiskError)
    → IsDisk (record { image = image; starting = starting; grows = grows; reserved = reserved; depth = depth; commands = commands; error = error }) → length image' ≡ length image
    → IsDisk (record { image = image'; starting = starting'; grows = grows'; reserved = reserved'; depth = depth; commands = commands; error = error })
is_disk_moved image image' starting starting' grows grows' reserved reserved' depth commands error d size = record {
  whole = size ∙ d.whole ∙ ap (λ n. 512 * (n / 512)) (sym size);
  least = omega (arith, d.least);
  most = omega (arith, d.most);
  deep = d.deep;
  shallow = d.shallow;
  count = d.count;
  each = λ t q found. let o = d.each t q found in record { own = o.own; below = o.below; some = o.some; fits = subst (λ n. q.lba + q.sectors ≤ n / 512) (sym size) o.fits };
  stands = λ e is. let s = d.stands e is in record { tag = s.tag; code = s.code; lba = s.lba; none = s.none };
}

-- one command has ended
pub is_disk_freed : (image starting : List ℕ) (grows : Bool) (reserved : List Bool) (depth tag : ℕ) (commands : List (Option QueuedFields)) (error : Option DiskError)
    → IsDisk (record { image = image; starting = starting; grows = grows; reserved = reserved; depth = depth; commands = commands; error = error })
    → IsDisk (record { image = image; starting = starting; grows = grows; reserved = reserved; depth = depth; commands = set commands tag None; error = error })
is_disk_freed image starting grows reserved depth tag commands error d = record {
  whole = d.whole;
  least = d.least;
  most = d.most;
  deep = d.deep;
  shallow = d.shallow;
  count = length-set commands tag None ∙ d.count;
  each = λ t q found. elim (cases_eq t tag) [
    | inl same ↦ let none = at_tag t same in absurd (cc)
    | inr other ↦ let o = d.each t q (sym (get_or-set_other commands tag t None None other) ∙ found) in record { own = o.own; below = o.below; some = o.some; fits = o.fits }
  ];
  stands = λ e is. let s = d.stands e is in record { tag = s.tag; code = s.code; lba = s.lba; none = still s.none };
}
  where
    at_tag : (t : ℕ) → t ≡ tag → get_or (set commands tag None) t None ≡ None
    at_tag t same = elim (cases_lt tag (length commands)) [
      | inl low ↦ ap (λ i. get_or (set commands tag None) i None) same ∙ get_or-set_same commands tag None None low
      | inr high ↦ get_or_past (set commands tag None) t None (omega (arith, length-set commands tag None))
    ]

    still : commands ≡ no_commands → set commands tag None ≡ no_commands
    still none =
        ap (λ c. set c tag None) none
        ∙ ap (λ o. set no_commands tag o) (sym (command_of-no_commands tag))
        ∙ set-get_or no_commands tag None

-- the tags with a command, as a set
pub places-commands : (commands : List (Option QueuedFields)) → length commands ≡ 32 → places (λ t. is_some (get_or commands t None)) ≡ map is_some commands
places-commands commands count =
    let p = λ (t : ℕ). is_some (get_or commands t None) in
    same_sets (places p) (map is_some commands) (length-places p ∙ sym count ∙ sym (length-map commands is_some))
    (λ i h. let low : i < 32 = omega (arith, length-places p) in has_place-places p i low ∙ sym (get_or-map is_some commands i None false (omega arith)))

-- a sector of a command that fits has 48 bits
pub sector_fits : (disk : DiskState) (tag : ℕ) (q : QueuedFields) (lba : ℕ) → IsDisk disk → IsOutstanding disk tag q → covers_sector q lba ≡ true → lba < 2 ^ 48
sector_fits disk tag q lba d o inside =
    let below : lba < q.lba + q.sectors = ltb-true lba (q.lba + q.sectors) (and_true_right (leb q.lba lba) (ltb lba (q.lba + q.sectors)) inside) in
    omega (arith, d.most, o.fits)
  where
    and_true_right : (a b : Bool) → (a && b) ≡ true → b ≡ true
    and_true_right true b e = e
    and_true_right false b e = absurd (cc)

-- a text as long as the image has room for the command of any tag
room_at : (disk : DiskState) (tag n : ℕ) (o : Option QueuedFields) → ((q : QueuedFields) → o ≡ Some q → IsOutstanding disk tag q) → 512 * disk_sectors disk ≤ n → IfSome o (λ q. byte_count q ≤ n)
room_at disk tag n None each long = tt
room_at disk tag n (Some q) each long = omega (arith, (each q refl).fits)

pub room_for_any : (disk : DiskState) (tag n : ℕ) → IsDisk disk → 512 * disk_sectors disk ≤ n → IfSome (command_of disk tag) (λ q. byte_count q ≤ n)
room_for_any disk tag n d long = room_at disk tag n (command_of disk tag) (d.each tag) long
