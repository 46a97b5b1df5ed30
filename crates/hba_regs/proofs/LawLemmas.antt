-- Lemmas on what writes keep.
use Rattle.std.proofs.Common.{◌≡◌, ◌≢◌, ℕ, zero, suc, ◌+◌, ◌*◌, ◌/◌, ◌%◌, ◌^◌, ◌<◌, Bool, true, false, not, ◌&&◌, ◌||◌, if◌then◌else◌, List, nat_eq, refl, ◌∙◌, ap, arith}
use Rattle.std.specs.Int.{bit_at}
use Rattle.std.proofs.lemmas.Nat.Bits.{bit_at_cat_high, bit_at_cat_low}
use Rattle.word_bits.specs.Places.{bits, has_place, intersection, no_places, only_below, union}
use Rattle.word_bits.proofs.PlacesLemmas.{has_place-union}
use Rattle.word_bits.proofs.BitsLemmas.{has_place-bits, bits-word_of}
use Rattle.hba_regs.specs.HbaState.{HbaPort, HbaState, HasWords, IsLawful, IsPowered, asked_link, enables, reset_with}
use Rattle.hba_regs.specs.Interrupts.{is_pending, settled}
use Rattle.hba_regs.specs.Linking.{came_up, goes_down, is_up, relinked, spun_up}
use Rattle.hba_regs.specs.RegisterTable.{takes_ones}
use Rattle.hba_regs.specs.Reading.{bit_word, command_word, word_at}
use Rattle.hba_regs.specs.Writing.{aligned, changed, commanded, commanded_by, consequence_of, powered, powered_by, spins_up, remaining, with_clb, with_command, with_fb, with_ghc, with_lower, both, with_control}
use Rattle.hba_regs.specs.Accessing.{part, with_part, write_of}
use Rattle.hba_regs.specs.declared.access_size.AccessSize.TheVariants.{Four, Eight}
use Rattle.hba_regs.specs.declared.consequence.Consequence.TheVariants.{Nothing, Stopped, LinkReset, Reset}
use Rattle.hba_regs.specs.declared.link.Link.{Link}
use Rattle.hba_regs.specs.declared.link.Link.TheVariants.{Up, Listening, InReset, Offline}
use Rattle.hba_regs.specs.declared.register.Register.{Register}
use Rattle.hba_regs.specs.declared.register.Register.TheVariants.{Ghc, Is, PxClb, PxClbu, PxFb, PxFbu, PxIs, PxIe, PxCmd, PxSctl, PxSerr, PxSact, PxCi}
use Rattle.hba_regs.proofs.InterruptLemmas.{either, pending-reset, settled_again}

-- ---- bytes of a word

pub byte_here : (w p v : ℕ) → p < 4 → part (with_part w (8 * p) 1 v) (8 * p) 1 ≡ v % 2 ^ 8
byte_here w zero v h = omega arith
byte_here w (suc zero) v h = omega arith
byte_here w (suc (suc zero)) v h = omega arith
byte_here w (suc (suc (suc zero))) v h = omega arith
byte_here w (suc (suc (suc (suc p)))) v h = absurd (omega arith)

pub byte_elsewhere : (w p v q : ℕ) → p < 4 → q < 4 → q ≢ p → part (with_part w (8 * p) 1 v) (8 * q) 1 ≡ part w (8 * q) 1
byte_elsewhere w zero v zero h k n = absurd (n refl)
byte_elsewhere w zero v (suc zero) h k n = omega arith
byte_elsewhere w zero v (suc (suc zero)) h k n = omega arith
byte_elsewhere w zero v (suc (suc (suc zero))) h k n = omega arith
byte_elsewhere w zero v (suc (suc (suc (suc q)))) h k n = absurd (omega arith)
byte_elsewhere w (suc zero) v zero h k n = omega arith
byte_elsewhere w (suc zero) v (suc zero) h k n = absurd (n refl)
byte_elsewhere w (suc zero) v (suc (suc zero)) h k n = omega arith
byte_elsewhere w (suc zero) v (suc (suc (suc zero))) h k n = omega arith
byte_elsewhere w (suc zero) v (suc (suc (suc (suc q)))) h k n = absurd (omega arith)
byte_elsewhere w (suc (suc zero)) v zero h k n = omega arith
byte_elsewhere w (suc (suc zero)) v (suc zero) h k n = omega arith
byte_elsewhere w (suc (suc zero)) v (suc (suc zero)) h k n = absurd (n refl)
byte_elsewhere w (suc (suc zero)) v (suc (suc (suc zero))) h k n = omega arith
byte_elsewhere w (suc (suc zero)) v (suc (suc (suc (suc q)))) h k n = absurd (omega arith)
byte_elsewhere w (suc (suc (suc zero))) v zero h k n = omega arith
byte_elsewhere w (suc (suc (suc zero))) v (suc zero) h k n = omega arith
byte_elsewhere w (suc (suc (suc zero))) v (suc (suc zero)) h k n = omega arith
byte_elsewhere w (suc (suc (suc zero))) v (suc (suc (suc zero))) h k n = absurd (n refl)
byte_elsewhere w (suc (suc (suc zero))) v (suc (suc (suc (suc q)))) h k n = absurd (omega arith)
byte_elsewhere w (suc (suc (suc (suc p)))) v q h k n = absurd (omega arith)

-- ---- 8 bytes

pub eight_as_two : (s : HbaState) (off lower upper : ℕ) → off % 8 ≡ 0 → lower < 2 ^ 32 → upper < 2 ^ 32
    → let first = write_of s off Four lower in
    let second = write_of first.state (off + 4) Four upper in
    let whole = write_of s off Eight (lower + upper * 2 ^ 32) in
    (whole.state ≡ second.state) × (whole.consequence ≡ both first.consequence second.consequence)
eight_as_two s off lower upper e h k =
    let a : off % 4 ≡ 0 = omega arith in
    let b : (off + 4) % 4 ≡ 0 = omega arith in
    let l : (lower + upper * 2 ^ 32) % 2 ^ 32 ≡ lower = omega arith in
    let u : (lower + upper * 2 ^ 32) / 2 ^ 32 ≡ upper = omega arith in
    let m : lower % 2 ^ 32 ≡ lower = omega arith in
    let n : upper % 2 ^ 32 ≡ upper = omega arith in
    rw (e, a, b, l, u, m, n) (refl, refl)

-- ---- GHC

pub reset_by_hr : (s : HbaState) (value : ℕ) → has_place (bits value) 0 ≡ true → settled (with_ghc s value) ≡ reset_with s.port.present s.port.capabilities s.port.clb s.port.fb
reset_by_hr s value e =
    ap (λ b. settled (if b then reset_with s.port.present s.port.capabilities s.port.clb s.port.fb else record s { ghc_ie = has_place (bits value) 1 })) e
    ∙ ap (λ b. record (reset_with s.port.present s.port.capabilities s.port.clb s.port.fb) { ips = b }) (pending-reset s.port.present s.port.capabilities s.port.clb s.port.fb)

-- ---- commands that stay

sent_on : (b : Bool) (s : List Bool) (i : ℕ) → (if b then Stopped else Nothing) ≡ Nothing → has_place s i ≡ true → has_place (remaining b s) i ≡ true
sent_on true s i e h = cc
sent_on false s i e h = h

-- a link that doesn't go down keeps the commands
linked : (p : HbaPort) (was next : Link) → (if goes_down was next then LinkReset else Nothing) ≡ Nothing
    → ((relinked p was next).sact ≡ p.sact) × ((relinked p was next).ci ≡ p.ci)
linked p Up Up e = (refl, refl)
linked p Listening Listening e = (refl, refl)
linked p InReset InReset e = (refl, refl)
linked p Offline Offline e = (refl, refl)
linked p Listening Up e = (refl, refl)
linked p InReset Up e = (refl, refl)
linked p Offline Up e = (refl, refl)
linked p Up Listening e = cc
linked p InReset Listening e = cc
linked p Offline Listening e = cc
linked p Listening InReset e = cc
linked p Listening Offline e = cc
linked p Up InReset e = cc
linked p Up Offline e = cc
linked p InReset Offline e = cc
linked p Offline InReset e = cc

-- a device that isn't reset by SUD keeps them too
spun_kept : (p : HbaPort) (link : Link) → is_up link ≡ false → ((spun_up p link).sact ≡ p.sact) × ((spun_up p link).ci ≡ p.ci)
spun_kept p Up e = cc
spun_kept p Listening e = either p.present (came_up p) p (λ q. (q.sact ≡ p.sact) × (q.ci ≡ p.ci)) (refl, refl) (refl, refl)
spun_kept p InReset e = (refl, refl)
spun_kept p Offline e = (refl, refl)

spun_if : (b : Bool) (p : HbaPort) → (b && is_up p.link) ≡ false
    → ((if b then spun_up p p.link else p).sact ≡ p.sact) × ((if b then spun_up p p.link else p).ci ≡ p.ci)
spun_if true p e = spun_kept p p.link e
spun_if false p e = (refl, refl)

powered_kept : (p : HbaPort) (sud alpe asp : Bool) → ((not p.sud && (not p.capabilities.sss || sud)) && is_up p.link) ≡ false
    → ((powered p sud alpe asp).sact ≡ p.sact) × ((powered p sud alpe asp).ci ≡ p.ci)
powered_kept p sud alpe asp e =
    spun_if (not p.sud && (not p.capabilities.sss || sud))
    (record p { sud = not p.capabilities.sss || sud; alpe = p.capabilities.salp && alpe; asp = p.capabilities.salp && asp }) e

not_reset : (a b : Bool) → (if a then LinkReset else if b then Stopped else Nothing) ≡ Nothing
    → (a ≡ false) × ((if b then Stopped else Nothing) ≡ Nothing)
not_reset true b e = cc
not_reset false b e = (refl, e)

reset_kept : (b : Bool) (s t : HbaState) (P : HbaState → Type 0) → (if b then Reset else Nothing) ≡ Nothing → P t → P (if b then s else t)
reset_kept true s t P e h = cc
reset_kept false s t P e h = h

-- the commands of one port are among those of another
abbrev pub KeepsCommands : HbaPort → HbaPort → Type 0
KeepsCommands p q = (i : ℕ) → (has_place p.sact i ≡ true → has_place q.sact i ≡ true) × (has_place p.ci i ≡ true → has_place q.ci i ≡ true)

keeps_own : (p : HbaPort) → KeepsCommands p p
keeps_own p i = (λ h. h, λ h. h)

gained : (n : ℕ) (s t : List Bool) (i : ℕ) → has_place s i ≡ true → has_place (union s (only_below n t)) i ≡ true
gained n s t i h = has_place-union s (only_below n t) i ∙ ap (λ x. x || has_place (only_below n t) i) h

pub commands_stay : (s : HbaState) (value : ℕ) (r : Register) → consequence_of s value r ≡ Nothing → KeepsCommands s.port (changed s value r).port
commands_stay s value Ghc e =
    reset_kept (has_place (bits value) 0) (reset_with s.port.present s.port.capabilities s.port.clb s.port.fb) (record s { ghc_ie = has_place (bits value) 1 })
    (λ t. KeepsCommands s.port t.port) e (keeps_own s.port)
commands_stay s value PxClb e = either s.port.st s.port _ (KeepsCommands s.port) (keeps_own s.port) (keeps_own s.port)
commands_stay s value PxClbu e =
    either s.port.capabilities.s64a _ s.port (KeepsCommands s.port) (either s.port.st s.port _ (KeepsCommands s.port) (keeps_own s.port) (keeps_own s.port)) (keeps_own s.port)
commands_stay s value PxFb e = either s.port.fre s.port _ (KeepsCommands s.port) (keeps_own s.port) (keeps_own s.port)
commands_stay s value PxFbu e =
    either s.port.capabilities.s64a _ s.port (KeepsCommands s.port) (either s.port.fre s.port _ (KeepsCommands s.port) (keeps_own s.port) (keeps_own s.port)) (keeps_own s.port)
commands_stay s value PxCmd e =
    let stops = s.port.st && not (has_place (bits value) 0) in
    let d = not_reset (spins_up s.port value && is_up s.port.link) stops e in
    let kept = powered_kept (commanded_by s.port value) (has_place (bits value) 1) (has_place (bits value) 26) (has_place (bits value) 27) d.0 in
    λ i. (λ h. ap (λ x. has_place x i) kept.0 ∙ sent_on stops s.port.sact i d.1 h, λ h. ap (λ x. has_place x i) kept.1 ∙ sent_on stops s.port.ci i d.1 h)
commands_stay s value PxSctl e =
    let kept = linked (record s.port { sctl = value % 2 ^ 20 }) s.port.link (asked_link (value % 2 ^ 4) s.port.present s.port.sud s.port.link) e in
    λ i. (λ h. ap (λ x. has_place x i) kept.0 ∙ h, λ h. ap (λ x. has_place x i) kept.1 ∙ h)
commands_stay s value PxSact e =
    either s.port.st _ s.port (KeepsCommands s.port) (λ i. (gained s.port.capabilities.ncs s.port.sact (bits value) i, λ h. h)) (keeps_own s.port)
commands_stay s value PxCi e =
    either s.port.st _ s.port (KeepsCommands s.port) (λ i. (λ h. h, gained s.port.capabilities.ncs s.port.ci (bits value) i)) (keeps_own s.port)
commands_stay s value r e = keeps_own s.port

-- ---- commands that are dropped

reset_dropped : (b : Bool) (s t : HbaState) (P : HbaState → Type 0) → (if b then Reset else Nothing) ≢ Nothing → P s → P (if b then s else t)
reset_dropped true s t P n h = h
reset_dropped false s t P n h = absurd (n refl)

spun_dropped : (p : HbaPort) (link : Link) (stops : Bool) (s t : List Bool) → p.sact ≡ remaining stops s → p.ci ≡ remaining stops t
    → (if is_up link then LinkReset else if stops then Stopped else Nothing) ≢ Nothing
    → ((spun_up p link).sact ≡ no_places) × ((spun_up p link).ci ≡ no_places)
spun_dropped p Up stops s t e f n = (refl, refl)
spun_dropped p Listening true s t e f n = either p.present (came_up p) p (λ q. (q.sact ≡ no_places) × (q.ci ≡ no_places)) (e, f) (e, f)
spun_dropped p InReset true s t e f n = (e, f)
spun_dropped p Offline true s t e f n = (e, f)
spun_dropped p Listening false s t e f n = absurd (n refl)
spun_dropped p InReset false s t e f n = absurd (n refl)
spun_dropped p Offline false s t e f n = absurd (n refl)

command_dropped : (b : Bool) (p : HbaPort) (stops : Bool) (s t : List Bool) → p.sact ≡ remaining stops s → p.ci ≡ remaining stops t
    → (if b && is_up p.link then LinkReset else if stops then Stopped else Nothing) ≢ Nothing
    → ((if b then spun_up p p.link else p).sact ≡ no_places) × ((if b then spun_up p p.link else p).ci ≡ no_places)
command_dropped true p stops s t e f n = spun_dropped p p.link stops s t e f n
command_dropped false p true s t e f n = (e, f)
command_dropped false p false s t e f n = absurd (n refl)

link_dropped : (p : HbaPort) (was next : Link) → (if goes_down was next then LinkReset else Nothing) ≢ Nothing
    → ((relinked p was next).sact ≡ no_places) × ((relinked p was next).ci ≡ no_places)
link_dropped p Up Up n = absurd (n refl)
link_dropped p Listening Listening n = absurd (n refl)
link_dropped p InReset InReset n = absurd (n refl)
link_dropped p Offline Offline n = absurd (n refl)
link_dropped p Listening Up n = absurd (n refl)
link_dropped p InReset Up n = absurd (n refl)
link_dropped p Offline Up n = absurd (n refl)
link_dropped p Up Listening n = (refl, refl)
link_dropped p InReset Listening n = (refl, refl)
link_dropped p Offline Listening n = (refl, refl)
link_dropped p Up InReset n = (refl, refl)
link_dropped p Listening InReset n = (refl, refl)
link_dropped p Offline InReset n = (refl, refl)
link_dropped p Up Offline n = (refl, refl)
link_dropped p Listening Offline n = (refl, refl)
link_dropped p InReset Offline n = (refl, refl)

-- PxCMD without SUD, ALPE and ASP, and the port before SUD has its effect
abbrev pub next_power : HbaPort → ℕ → HbaPort
next_power p value =
    record (commanded_by p value) {
      sud = not p.capabilities.sss || has_place (bits value) 1;
      alpe = p.capabilities.salp && has_place (bits value) 26;
      asp = p.capabilities.salp && has_place (bits value) 27;
    }

pub all_dropped : (s : HbaState) (value : ℕ) (r : Register) → consequence_of s value r ≢ Nothing
    → ((changed s value r).port.sact ≡ no_places) × ((changed s value r).port.ci ≡ no_places)
all_dropped s value Ghc n =
    reset_dropped (has_place (bits value) 0) (reset_with s.port.present s.port.capabilities s.port.clb s.port.fb) (record s { ghc_ie = has_place (bits value) 1 })
    (λ t. (t.port.sact ≡ no_places) × (t.port.ci ≡ no_places)) n (refl, refl)
all_dropped s value PxCmd n =
    command_dropped (spins_up s.port value) (next_power s.port value) (s.port.st && not (has_place (bits value) 0)) s.port.sact s.port.ci refl refl n
all_dropped s value PxSctl n =
    link_dropped (record s.port { sctl = value % 2 ^ 20 }) s.port.link (asked_link (value % 2 ^ 4) s.port.present s.port.sud s.port.link) n
all_dropped s value r n = absurd (n refl)

-- ---- a port that is stopped

spun_none : (p : HbaPort) (link : Link) → p.sact ≡ no_places → p.ci ≡ no_places → p.halted ≡ false
    → ((spun_up p link).sact ≡ no_places) × (((spun_up p link).ci ≡ no_places) × ((spun_up p link).halted ≡ false))
spun_none p Up e f g = (refl, (refl, refl))
spun_none p Listening e f g =
    either p.present (came_up p) p (λ q. (q.sact ≡ no_places) × ((q.ci ≡ no_places) × (q.halted ≡ false))) (e, (f, g)) (e, (f, g))
spun_none p InReset e f g = (e, (f, g))
spun_none p Offline e f g = (e, (f, g))

power_none : (b : Bool) (p : HbaPort) → p.sact ≡ no_places → p.ci ≡ no_places → p.halted ≡ false → let q = if b then spun_up p p.link else p in
    (q.sact ≡ no_places) × ((q.ci ≡ no_places) × (q.halted ≡ false))
power_none true p e f g = spun_none p p.link e f g
power_none false p e f g = (e, (f, g))

stopped_set : (st b : Bool) (s : List Bool) → b ≡ false → (st ≡ false → s ≡ no_places) → remaining (st && not b) s ≡ no_places
stopped_set true false s e h = refl
stopped_set true true s e h = cc
stopped_set false b s e h = h refl

stopped_halt : (h st b : Bool) → b ≡ false → (h && st && b) ≡ false
stopped_halt false st b e = refl
stopped_halt true false b e = refl
stopped_halt true true b e = e

pub all_stopped : (s : HbaState) (value : ℕ) → IsLawful s.port → has_place (bits value) 0 ≡ false → let p = (changed s value PxCmd).port in
    (p.sact ≡ no_places) × ((p.ci ≡ no_places) × (p.halted ≡ false))
all_stopped s value h e =
    power_none (spins_up s.port value) (next_power s.port value)
    (stopped_set s.port.st (has_place (bits value) 0) s.port.sact e (λ k. (h.stopped k).0))
    (stopped_set s.port.st (has_place (bits value) 0) s.port.ci e (λ k. (h.stopped k).1))
    (stopped_halt s.port.halted s.port.st (has_place (bits value) 0) e)

-- ---- what the HBA can do

spun_can : (p : HbaPort) (link : Link) → (spun_up p link).capabilities ≡ p.capabilities
spun_can p Up = refl
spun_can p Listening = either p.present (came_up p) p (λ q. q.capabilities ≡ p.capabilities) refl refl
spun_can p InReset = refl
spun_can p Offline = refl

power_can : (b : Bool) (p : HbaPort) → (if b then spun_up p p.link else p).capabilities ≡ p.capabilities
power_can true p = spun_can p p.link
power_can false p = refl

link_can : (p : HbaPort) (was next : Link) → (relinked p was next).capabilities ≡ p.capabilities
link_can p Up Up = refl
link_can p Up Listening = refl
link_can p Up InReset = refl
link_can p Up Offline = refl
link_can p Listening Up = refl
link_can p Listening Listening = refl
link_can p Listening InReset = refl
link_can p Listening Offline = refl
link_can p InReset Up = refl
link_can p InReset Listening = refl
link_can p InReset InReset = refl
link_can p InReset Offline = refl
link_can p Offline Up = refl
link_can p Offline Listening = refl
link_can p Offline InReset = refl
link_can p Offline Offline = refl

reset_can : (b : Bool) (s t : HbaState) (P : HbaState → Type 0) → P s → P t → P (if b then s else t)
reset_can true s t P h k = h
reset_can false s t P h k = k

pub can_stays : (s : HbaState) (value : ℕ) (r : Register) → (changed s value r).port.capabilities ≡ s.port.capabilities
can_stays s value Ghc =
    reset_can (has_place (bits value) 0) (reset_with s.port.present s.port.capabilities s.port.clb s.port.fb) (record s { ghc_ie = has_place (bits value) 1 })
    (λ t. t.port.capabilities ≡ s.port.capabilities) refl refl
can_stays s value PxClb = either s.port.st s.port _ (λ p. p.capabilities ≡ s.port.capabilities) refl refl
can_stays s value PxClbu =
    either s.port.capabilities.s64a _ s.port (λ p. p.capabilities ≡ s.port.capabilities) (either s.port.st s.port _ (λ p. p.capabilities ≡ s.port.capabilities) refl refl) refl
can_stays s value PxFb = either s.port.fre s.port _ (λ p. p.capabilities ≡ s.port.capabilities) refl refl
can_stays s value PxFbu =
    either s.port.capabilities.s64a _ s.port (λ p. p.capabilities ≡ s.port.capabilities) (either s.port.fre s.port _ (λ p. p.capabilities ≡ s.port.capabilities) refl refl) refl
can_stays s value PxCmd = power_can (spins_up s.port value) (next_power s.port value)
can_stays s value PxSctl = link_can (record s.port { sctl = value % 2 ^ 20 }) s.port.link (asked_link (value % 2 ^ 4) s.port.present s.port.sud s.port.link)
can_stays s value PxSact = either s.port.st _ s.port (λ p. p.capabilities ≡ s.port.capabilities) refl refl
can_stays s value PxCi = either s.port.st _ s.port (λ p. p.capabilities ≡ s.port.capabilities) refl refl
can_stays s value r = refl

-- ---- a device that waits for SUD

edge : (sud sss b : Bool) → sud ≡ false → sss ≡ true → (not sud && (not sss || b)) ≡ b
edge false true b e f = refl
edge true sss b e f = cc
edge false false b e f = cc

pub still_waits : (p : HbaPort) (value : ℕ) → p.link ≡ Listening → p.sud ≡ false → p.capabilities.sss ≡ true → has_place (bits value) 1 ≡ false
    → (with_command p value).link ≡ Listening
still_waits p value l e f b =
    ap (λ x. (if x then spun_up (next_power p value) p.link else next_power p value).link) (edge p.sud p.capabilities.sss (has_place (bits value) 1) e f ∙ b) ∙ l

pub spins : (p : HbaPort) (value : ℕ) → p.present ≡ true → p.link ≡ Listening → p.sud ≡ false → p.capabilities.sss ≡ true → has_place (bits value) 1 ≡ true
    → with_command p value ≡ came_up (next_power p value)
spins p value d l e f b =
    ap (λ x. if x then spun_up (next_power p value) p.link else next_power p value) (edge p.sud p.capabilities.sss (has_place (bits value) 1) e f ∙ b)
    ∙ ap (spun_up (next_power p value)) l ∙ ap (λ x. if x then came_up (next_power p value) else next_power p value) d

-- ---- what was read, written back

ghc_word : (ie : Bool) → (has_place (bits (2 ^ 31 + bit_word ie 1)) 0 ≡ false) × (has_place (bits (2 ^ 31 + bit_word ie 1)) 1 ≡ ie)
ghc_word true = (has_place-bits _ 0 (omega arith), has_place-bits _ 1 (omega arith))
ghc_word false = (has_place-bits _ 0 (omega arith), has_place-bits _ 1 (omega arith))

-- a word by its bits below bit 24, and of these by the lowest byte
by_low : (w up mid x low i : ℕ) → w ≡ up * 2 ^ 24 + mid → mid ≡ x * 2 ^ 8 + low → i < 8 → has_place (bits w) i ≡ nat_eq (bit_at low i) 1
by_low w up mid x low i e f h =
    has_place-bits w i (omega arith)
    ∙ ap (λ y. nat_eq y 1)
    (ap (λ y. bit_at y i) e ∙ bit_at_cat_low up 24 mid i (omega arith) ∙ ap (λ y. bit_at y i) f ∙ bit_at_cat_low x 8 low i h)

-- and by the bits from bit 24 on
by_up : (w up mid i : ℕ) → w ≡ up * 2 ^ 24 + mid → mid < 2 ^ 24 → i < 8 → has_place (bits w) (24 + i) ≡ nat_eq (bit_at up i) 1
by_up w up mid i e f h =
    has_place-bits w (24 + i) (omega arith)
    ∙ ap (λ y. nat_eq y 1) (ap (λ y. bit_at y (24 + i)) e ∙ bit_at_cat_high up 24 mid (24 + i) f (omega arith) ∙ ap (bit_at up) (omega arith))

-- PxCMD by its bits, without ATAPI, DLAE, ALPE and ASP
abbrev low_word : Bool → Bool → Bool → ℕ → ℕ
low_word st sud fre ccs =
    4 + bit_word st 0 + bit_word sud 1 + bit_word fre 4 + (if st then ccs * 2 ^ 8 else 0) + bit_word fre 14 + bit_word st 15

-- so much is its lowest byte, and so much the others
low_byte : (st sud fre : Bool) (ccs : ℕ) → low_word st sud fre ccs
    ≡ ((if st then ccs + 128 else 0) + (if fre then 64 else 0)) * 2 ^ 8 + (4 + bit_word st 0 + bit_word sud 1 + bit_word fre 4)
low_byte true true true ccs = omega arith
low_byte true true false ccs = omega arith
low_byte true false true ccs = omega arith
low_byte true false false ccs = omega arith
low_byte false true true ccs = omega arith
low_byte false true false ccs = omega arith
low_byte false false true ccs = omega arith
low_byte false false false ccs = omega arith

byte_bits : (st sud fre : Bool) → let w = 4 + bit_word st 0 + bit_word sud 1 + bit_word fre 4 in
    (nat_eq (bit_at w 0) 1 ≡ st) × ((nat_eq (bit_at w 4) 1 ≡ fre) × ((nat_eq (bit_at w 3) 1 ≡ false) × (nat_eq (bit_at w 1) 1 ≡ sud)))
byte_bits true true true = (refl, (refl, (refl, refl)))
byte_bits true true false = (refl, (refl, (refl, refl)))
byte_bits true false true = (refl, (refl, (refl, refl)))
byte_bits true false false = (refl, (refl, (refl, refl)))
byte_bits false true true = (refl, (refl, (refl, refl)))
byte_bits false true false = (refl, (refl, (refl, refl)))
byte_bits false false true = (refl, (refl, (refl, refl)))
byte_bits false false false = (refl, (refl, (refl, refl)))

low_below : (st sud fre : Bool) (ccs : ℕ) → ccs < 32 → low_word st sud fre ccs < 2 ^ 24
low_below true true true ccs h = omega arith
low_below true true false ccs h = omega arith
low_below true false true ccs h = omega arith
low_below true false false ccs h = omega arith
low_below false true true ccs h = omega arith
low_below false true false ccs h = omega arith
low_below false false true ccs h = omega arith
low_below false false false ccs h = omega arith

-- a bit of the upper byte
up_bit : (b : Bool) → (bit_word b 24 ≡ bit_word b 0 * 2 ^ 24) × ((bit_word b 25 ≡ bit_word b 1 * 2 ^ 24)
    × ((bit_word b 26 ≡ bit_word b 2 * 2 ^ 24) × (bit_word b 27 ≡ bit_word b 3 * 2 ^ 24)))
up_bit true = (omega arith, (omega arith, (omega arith, omega arith)))
up_bit false = (omega arith, (omega arith, (omega arith, omega arith)))

-- the word's upper byte, and its lowest one
command_bytes : (st sud fre atapi dlae alpe asp : Bool) (ccs : ℕ)
    → low_word st sud fre ccs + bit_word atapi 24 + bit_word dlae 25 + bit_word alpe 26 + bit_word asp 27
    ≡ (bit_word atapi 0 + bit_word dlae 1 + bit_word alpe 2 + bit_word asp 3) * 2 ^ 24 + low_word st sud fre ccs
command_bytes st sud fre atapi dlae alpe asp ccs =
    omega (arith, (up_bit atapi).0, (up_bit dlae).1.0, (up_bit alpe).1.1.0, (up_bit asp).1.1.1)

upper_bits : (atapi dlae alpe asp : Bool) → let w = bit_word atapi 0 + bit_word dlae 1 + bit_word alpe 2 + bit_word asp 3 in
    (nat_eq (bit_at w 0) 1 ≡ atapi) × ((nat_eq (bit_at w 1) 1 ≡ dlae) × ((nat_eq (bit_at w 2) 1 ≡ alpe) × (nat_eq (bit_at w 3) 1 ≡ asp)))
upper_bits true true true true = (refl, (refl, (refl, refl)))
upper_bits true true true false = (refl, (refl, (refl, refl)))
upper_bits true true false true = (refl, (refl, (refl, refl)))
upper_bits true true false false = (refl, (refl, (refl, refl)))
upper_bits true false true true = (refl, (refl, (refl, refl)))
upper_bits true false true false = (refl, (refl, (refl, refl)))
upper_bits true false false true = (refl, (refl, (refl, refl)))
upper_bits true false false false = (refl, (refl, (refl, refl)))
upper_bits false true true true = (refl, (refl, (refl, refl)))
upper_bits false true true false = (refl, (refl, (refl, refl)))
upper_bits false true false true = (refl, (refl, (refl, refl)))
upper_bits false true false false = (refl, (refl, (refl, refl)))
upper_bits false false true true = (refl, (refl, (refl, refl)))
upper_bits false false true false = (refl, (refl, (refl, refl)))
upper_bits false false false true = (refl, (refl, (refl, refl)))
upper_bits false false false false = (refl, (refl, (refl, refl)))

-- for a port with these ST and halted
same_st : (p : HbaPort) (st halted : Bool) → (halted && not st) ≡ false
    → commanded (record p { st = st; halted = halted }) st p.fre false p.atapi p.dlae ≡ record p { st = st; halted = halted }
same_st p true true h = refl
same_st p true false h = refl
same_st p false true h = cc
same_st p false false h = refl

commanded_again : (p : HbaPort) → (p.halted && not p.st) ≡ false → commanded p p.st p.fre false p.atapi p.dlae ≡ p
commanded_again p h = same_st p p.st p.halted h

-- PxCMD with these bits
five_bits : (p : HbaPort) (st fre clo atapi dlae : Bool) → st ≡ p.st → fre ≡ p.fre → clo ≡ false → atapi ≡ p.atapi → dlae ≡ p.dlae
    → commanded p st fre clo atapi dlae ≡ commanded p p.st p.fre false p.atapi p.dlae
five_bits p st fre clo atapi dlae a b c d e =
    ap (λ x. commanded p x fre clo atapi dlae) a ∙ ap (λ x. commanded p p.st x clo atapi dlae) b ∙ ap (λ x. commanded p p.st p.fre x atapi dlae) c
    ∙ ap (λ x. commanded p p.st p.fre false x dlae) d ∙ ap (commanded p p.st p.fre false p.atapi) e

never : (b : Bool) (p q : HbaPort) → (if not b && b then q else p) ≡ p
never true p q = refl
never false p q = refl

-- SUD, ALPE and ASP as they are
power_kept : (p : HbaPort) (sud alpe asp : Bool) → sud ≡ p.sud → alpe ≡ p.alpe → asp ≡ p.asp
    → (if not p.sud && sud then spun_up (record p { sud = sud; alpe = alpe; asp = asp }) p.link else record p { sud = sud; alpe = alpe; asp = asp }) ≡ p
power_kept p sud alpe asp e f g =
    ap (λ x. if not p.sud && x then spun_up (record p { sud = x; alpe = alpe; asp = asp }) p.link else record p { sud = x; alpe = alpe; asp = asp }) e
    ∙ ap (λ x. if not p.sud && p.sud then spun_up (record p { alpe = x; asp = asp }) p.link else record p { alpe = x; asp = asp }) f
    ∙ ap (λ x. if not p.sud && p.sud then spun_up (record p { asp = x }) p.link else record p { asp = x }) g ∙ never p.sud p (spun_up p p.link)

powered_again : (p : HbaPort) (sud alpe asp : Bool) → IsPowered p.capabilities p.sud p.alpe p.asp → sud ≡ p.sud → alpe ≡ p.alpe → asp ≡ p.asp
    → powered p sud alpe asp ≡ p
powered_again p sud alpe asp h e f g =
    power_kept p (not p.capabilities.sss || sud) (p.capabilities.salp && alpe) (p.capabilities.salp && asp)
    (ap (λ x. not p.capabilities.sss || x) e ∙ h.spun) (ap (λ x. p.capabilities.salp && x) f ∙ h.saves)
    (ap (λ x. p.capabilities.salp && x) g ∙ h.slumbers)

clo_unset : (sclo b : Bool) → b ≡ false → (sclo && b) ≡ false
clo_unset true b e = e
clo_unset false b e = refl

command_back : (p : HbaPort) → IsLawful p → (p.halted && not p.st) ≡ false → with_command p (command_word p) ≡ p
command_back p l h =
    let e = command_bytes p.st p.sud p.fre p.atapi p.dlae p.alpe p.asp p.ccs in
    let m = low_byte p.st p.sud p.fre p.ccs in
    let b = byte_bits p.st p.sud p.fre in
    let u = upper_bits p.atapi p.dlae p.alpe p.asp in
    let k = low_below p.st p.sud p.fre p.ccs l.ccs in
    ap (λ q. powered_by q (command_word p))
    (five_bits p _ _ _ _ _ (by_low _ _ _ _ _ 0 e m (omega arith) ∙ b.0) (by_low _ _ _ _ _ 4 e m (omega arith) ∙ b.1.0)
    (clo_unset p.capabilities.sclo _ (by_low _ _ _ _ _ 3 e m (omega arith) ∙ b.1.1.0)) (by_up _ _ _ 0 e k (omega arith) ∙ u.0)
    (by_up _ _ _ 1 e k (omega arith) ∙ u.1.0)
    ∙ commanded_again p h)
    ∙ powered_again p _ _ _ l.power (by_low _ _ _ _ _ 1 e m (omega arith) ∙ b.1.1.1) (by_up _ _ _ 2 e k (omega arith) ∙ u.1.1.0)
    (by_up _ _ _ 3 e k (omega arith) ∙ u.1.1.1)

same_words : (base : ℕ) → base / 2 ^ 32 * 2 ^ 32 + base % 2 ^ 32 ≡ base
same_words base = omega arith

-- a base whose bits below bit i are 0, by its words
lower_back : (i base : ℕ) → (base % 2 ^ 32) / 2 ^ i * 2 ^ i ≡ base % 2 ^ 32 → with_lower base (aligned i (base % 2 ^ 32)) ≡ base
lower_back i base e = ap (with_lower base) e ∙ same_words base

same_either : (b : Bool) (p : HbaPort) → (if b then p else p) ≡ p
same_either true p = refl
same_either false p = refl

clb_back : (p : HbaPort) (base : ℕ) → base ≡ p.clb → with_clb p base ≡ p
clb_back p base e = ap (with_clb p) e ∙ same_either p.st p

fb_back : (p : HbaPort) (base : ℕ) → base ≡ p.fb → with_fb p base ≡ p
fb_back p base e = ap (with_fb p) e ∙ same_either p.fre p

relinked_same : (p : HbaPort) (link : Link) → relinked p link link ≡ p
relinked_same p Up = refl
relinked_same p Listening = refl
relinked_same p InReset = refl
relinked_same p Offline = refl

control_back : (p : HbaPort) → IsLawful p → with_control p p.sctl ≡ p
control_back p h =
    let e : p.sctl % 2 ^ 20 ≡ p.sctl = omega (arith, h.sctl) in
    ap (relinked (record p { sctl = p.sctl % 2 ^ 20 }) p.link) h.link ∙ relinked_same (record p { sctl = p.sctl % 2 ^ 20 }) p.link ∙ ap (λ x. record p { sctl = x }) e

ghc_back : (s : HbaState) → with_ghc s (2 ^ 31 + bit_word s.ghc_ie 1) ≡ s
ghc_back s =
    let b = ghc_word s.ghc_ie in
    ap (λ x. if x then reset_with s.port.present s.port.capabilities s.port.clb s.port.fb else record s { ghc_ie = has_place (bits (2 ^ 31 + bit_word s.ghc_ie 1)) 1 }) b.0 ∙ ap (λ x. record s { ghc_ie = x }) b.1

changed_back : (s : HbaState) (r : Register) → takes_ones r ≡ false → (s.port.halted && not s.port.st) ≡ false → IsLawful s.port → HasWords s.port
    → changed s (word_at s r) r ≡ s
changed_back s Ghc o n h w = ghc_back s
changed_back s PxClb o n h w = ap (λ p. record s { port = p }) (clb_back s.port _ (lower_back 10 s.port.clb (omega (arith, h.clb))))
changed_back s PxClbu o n h w =
    ap (λ p. record s { port = p })
    (ap (λ p. if s.port.capabilities.s64a then p else s.port) (clb_back s.port _ (same_words s.port.clb)) ∙ same_either s.port.capabilities.s64a s.port)
changed_back s PxFb o n h w = ap (λ p. record s { port = p }) (fb_back s.port _ (lower_back 8 s.port.fb (omega (arith, h.fb))))
changed_back s PxFbu o n h w =
    ap (λ p. record s { port = p })
    (ap (λ p. if s.port.capabilities.s64a then p else s.port) (fb_back s.port _ (same_words s.port.fb)) ∙ same_either s.port.capabilities.s64a s.port)
changed_back s PxIe o n h w =
    ap (λ x. record s { port = record s.port { ie = x } }) (ap (λ x. intersection x enables) (bits-word_of s.port.ie w.ie) ∙ h.ie)
changed_back s PxCmd o n h w = ap (λ p. record s { port = p }) (command_back s.port h n)
changed_back s PxSctl o n h w = ap (λ p. record s { port = p }) (control_back s.port h)
changed_back s Is o n h w = cc
changed_back s PxIs o n h w = cc
changed_back s PxSerr o n h w = cc
changed_back s PxSact o n h w = cc
changed_back s PxCi o n h w = cc
changed_back s r o n h w = refl

pub written_back : (s : HbaState) (r : Register) → takes_ones r ≡ false → (s.port.halted && not s.port.st) ≡ false → IsLawful s.port → HasWords s.port
    → (is_pending s.port ≡ true → s.ips ≡ true) → settled (changed s (word_at s r) r) ≡ s
written_back s r o n h w reports = ap settled (changed_back s r o n h w) ∙ settled_again s reports
