-- Lemmas on the events of the link, of the device and of the interface.
use Rattle.std.proofs.Common.{◌≡◌, ℕ, Bool, true, false, not, ◌&&◌, ◌||◌, if◌then◌else◌, length, nat_eq, ◌%◌, ◌^◌, refl, ◌∙◌, ap, arith, subst, sym}
use Rattle.word_bits.specs.Places.{bits, has_place, with_place}
use Rattle.word_bits.proofs.PlacesLemmas.{has_place-union, has_place-with_same}
use Rattle.word_bits.proofs.BitsLemmas.{has_place-bits}
use Rattle.hba_regs.specs.HbaState.{HbaPort, HbaState, IsKept, asked_link, link_changed, reset_with, spun_link}
use Rattle.hba_regs.specs.InterfaceErrors.{accepts_fis, interface_failed, reported, unknown_received}
use Rattle.hba_regs.specs.Interrupts.{interrupts, place_of}
use Rattle.hba_regs.specs.LinkEvents.{cominit, found, lost, plugged, unplugged}
use Rattle.hba_regs.specs.Linking.{came_up, is_up, relinked, spun_up}
use Rattle.hba_regs.specs.PortStates.{err_wait_for_clear}
use Rattle.hba_regs.specs.Settings.{settings}
use Rattle.hba_regs.specs.Writing.{changed}
use Rattle.hba_regs.specs.declared.fatal.Fatal.TheVariants.{Interface}
use Rattle.hba_regs.specs.declared.interface_error.InterfaceError.{InterfaceError}
use Rattle.hba_regs.specs.declared.link.Link.{Link}
use Rattle.hba_regs.specs.declared.link.Link.TheVariants.{Up, Listening, InReset, Offline}
use Rattle.hba_regs.specs.declared.register.Register.{Register}
use Rattle.hba_regs.specs.declared.register.Register.TheVariants.{Ghc, PxClb, PxClbu, PxFb, PxFbu, PxCmd, PxSctl, PxSact, PxCi}
use Rattle.hba_regs.proofs.InterruptLemmas.{either, pcs_of_serr, prcs_of_serr, ufs_of_serr}
use Rattle.hba_regs.proofs.LawLemmas.{next_power}
use Rattle.hba_regs.proofs.StateLemmas.{or_true}

-- ---- what software has set

pub lost_keeps : (p : HbaPort) (link : Link) → settings (lost p link) ≡ settings p
lost_keeps p Up = refl
lost_keeps p Listening = refl
lost_keeps p InReset = refl
lost_keeps p Offline = refl

cominit_keeps : (p : HbaPort) (link : Link) → settings (cominit p link) ≡ settings p
cominit_keeps p Listening = either p.sud (came_up p) (record p { serr = with_place p.serr 26 }) (λ q. settings q ≡ settings p) refl refl
cominit_keeps p Up = refl
cominit_keeps p InReset = refl
cominit_keeps p Offline = refl

pub found_keeps : (p : HbaPort) → settings (found p) ≡ settings p
found_keeps p = either p.present (cominit p p.link) p (λ q. settings q ≡ settings p) (cominit_keeps p p.link) refl

pub unplugged_keeps : (p : HbaPort) → settings (unplugged p) ≡ settings p
unplugged_keeps p = lost_keeps p p.link

pub plugged_keeps : (p : HbaPort) → settings (plugged p) ≡ settings p
plugged_keeps p = cominit_keeps (record p { present = true }) p.link

pub failed_keeps : (error : InterfaceError) (is_fatal : Bool) (p : HbaPort) → settings (interface_failed error is_fatal p) ≡ settings p
failed_keeps error true p = either (is_up p.link) _ p (λ q. settings q ≡ settings p) refl refl
failed_keeps error false p = either (is_up p.link) _ p (λ q. settings q ≡ settings p) refl refl

pub unknown_keeps : (p : HbaPort) → settings (unknown_received p) ≡ settings p
unknown_keeps p = either (accepts_fis p) (record p { serr = with_place p.serr 25 }) p (λ q. settings q ≡ settings p) refl refl

-- ---- a port that goes on, and one that stops

pub goes_on : (error : InterfaceError) (p : HbaPort) → (interface_failed error false p).halted ≡ p.halted
goes_on error p = either (is_up p.link) _ p (λ q. q.halted ≡ p.halted) refl refl

waits : (halted st : Bool) → st ≡ true → (halted || st) ≡ true
waits true st e = refl
waits false st e = e

pub stops : (error : InterfaceError) (p : HbaPort) → p.link ≡ Up → p.st ≡ true → (interface_failed error true p).halted ≡ true
stops error p l e =
    let q = err_wait_for_clear (record p { serr = reported error true p.serr; is = with_place p.is (place_of Interface) }) in
    ap (λ link. (if is_up link then q else p).halted) l ∙ waits p.halted p.st e

pub lost_stops : (p : HbaPort) (link : Link) → link ≡ Up → p.st ≡ true → (lost p link).halted ≡ true
lost_stops p Up l e = waits p.halted p.st e
lost_stops p Listening l e = cc
lost_stops p InReset l e = cc
lost_stops p Offline l e = cc

cominit_waits : (p : HbaPort) (link : Link) → (cominit p link).halted ≡ p.halted
cominit_waits p Listening = either p.sud (came_up p) (record p { serr = with_place p.serr 26 }) (λ q. q.halted ≡ p.halted) refl refl
cominit_waits p Up = refl
cominit_waits p InReset = refl
cominit_waits p Offline = refl

pub found_waits : (p : HbaPort) → (found p).halted ≡ p.halted
found_waits p = either p.present (cominit p p.link) p (λ q. q.halted ≡ p.halted) (cominit_waits p p.link) refl

pub plugged_waits : (p : HbaPort) → (plugged p).halted ≡ p.halted
plugged_waits p = cominit_waits (record p { present = true }) p.link

-- ---- a device that is gone

pub lost_is_down : (p : HbaPort) (link : Link) → p.link ≡ link → is_up (lost p link).link ≡ false
lost_is_down p Up e = refl
lost_is_down p Listening e = ap is_up e
lost_is_down p InReset e = ap is_up e
lost_is_down p Offline e = ap is_up e

pub down_without : (link : Link) (present : Bool) → (link ≡ Up → present ≡ true) → present ≡ false → is_up link ≡ false
down_without Up present h e = let k = h refl in cc
down_without Listening present h e = refl
down_without InReset present h e = refl
down_without Offline present h e = refl

-- no device, and no link that is up
abbrev IsGone : HbaPort → Type 0
IsGone p = (p.present ≡ false) × (is_up p.link ≡ false)

asked_gone : (a b c sud : Bool) (p : HbaPort) (was : Link) → is_up was ≡ false → IsGone p
    → IsGone (relinked p was (if a then spun_link false sud was else if b then InReset else if c then Offline else was))
asked_gone a b c sud p Up e h = cc
asked_gone true b c sud p Listening e h = h
asked_gone true b c sud p InReset e h = (h.0, refl)
asked_gone true b c sud p Offline e h = (h.0, refl)
asked_gone false true c sud p Listening e h = (h.0, refl)
asked_gone false true c sud p InReset e h = h
asked_gone false true c sud p Offline e h = (h.0, refl)
asked_gone false false true sud p Listening e h = (h.0, refl)
asked_gone false false true sud p InReset e h = (h.0, refl)
asked_gone false false true sud p Offline e h = h
asked_gone false false false sud p Listening e h = h
asked_gone false false false sud p InReset e h = h
asked_gone false false false sud p Offline e h = h

spun_gone : (p : HbaPort) (link : Link) → is_up link ≡ false → IsGone p → IsGone (spun_up p link)
spun_gone p Up e h = cc
spun_gone p Listening e h = subst (λ b. IsGone (if b then came_up p else p)) (sym h.0) h
spun_gone p InReset e h = h
spun_gone p Offline e h = h

chosen : (b : Bool) (s t : HbaState) (P : HbaState → Type 0) → P s → P t → P (if b then s else t)
chosen true s t P h k = h
chosen false s t P h k = k

none_comes : (sss : Bool) → is_up (if not sss && false then Up else Listening) ≡ false
none_comes true = refl
none_comes false = refl

reset_gone : (s : HbaState) → IsGone s.port → IsGone (reset_with s.port.present s.port.capabilities s.port.clb s.port.fb).port
reset_gone s h =
    subst (λ b. IsGone (reset_with b s.port.capabilities s.port.clb s.port.fb).port) (sym h.0) (refl, none_comes s.port.capabilities.sss)

pub stays_gone : (s : HbaState) (value : ℕ) (r : Register) → IsGone s.port → IsGone (changed s value r).port
stays_gone s value Ghc h =
    chosen (has_place (bits value) 0) (reset_with s.port.present s.port.capabilities s.port.clb s.port.fb) (record s { ghc_ie = has_place (bits value) 1 })
    (λ t. IsGone t.port) (reset_gone s h) h
stays_gone s value PxClb h = either s.port.st s.port _ IsGone h h
stays_gone s value PxClbu h = either s.port.capabilities.s64a _ s.port IsGone (either s.port.st s.port _ IsGone h h) h
stays_gone s value PxFb h = either s.port.fre s.port _ IsGone h h
stays_gone s value PxFbu h = either s.port.capabilities.s64a _ s.port IsGone (either s.port.fre s.port _ IsGone h h) h
stays_gone s value PxCmd h =
    either (not s.port.sud && (next_power s.port value).sud) (spun_up (next_power s.port value) s.port.link) (next_power s.port value) IsGone
    (spun_gone (next_power s.port value) s.port.link h.1 h) h
stays_gone s value PxSctl h =
    subst (λ b. IsGone (relinked (record s.port { sctl = value % 2 ^ 20 }) s.port.link (asked_link (value % 2 ^ 4) b s.port.sud s.port.link))) (sym h.0)
    (asked_gone (nat_eq (value % 2 ^ 4) 0) (nat_eq (value % 2 ^ 4) 1) (nat_eq (value % 2 ^ 4) 4) s.port.sud (record s.port { sctl = value % 2 ^ 20 }) s.port.link h.1 h)
stays_gone s value PxSact h = either s.port.st _ s.port IsGone h h
stays_gone s value PxCi h = either s.port.st _ s.port IsGone h h
stays_gone s value r h = h

-- ---- what PxIS reports

pub lost_reports : (p : HbaPort) (link : Link) → link ≡ Up → length p.is ≡ 32 → length p.serr ≡ 32 → IsKept p.is → has_place (interrupts (lost p link)) 22 ≡ true
lost_reports p Up e l m h = prcs_of_serr (lost p Up) l h ∙ has_place-with_same p.serr 16 (omega (arith, m))
lost_reports p Listening e l m h = cc
lost_reports p InReset e l m h = cc
lost_reports p Offline e l m h = cc

came_reports : (p : HbaPort) → length p.is ≡ 32 → IsKept p.is → has_place (interrupts (came_up p)) 6 ≡ true
came_reports p l h =
    pcs_of_serr (came_up p) l h ∙ has_place-union p.serr link_changed 26 ∙ ap (λ b. has_place p.serr 26 || b) (has_place-bits 0x04050000 26 (omega arith))
    ∙ or_true (has_place p.serr 26)

cominit_reports : (p : HbaPort) (link : Link) → link ≡ Listening → length p.is ≡ 32 → length p.serr ≡ 32 → IsKept p.is
    → has_place (interrupts (cominit p link)) 6 ≡ true
cominit_reports p Listening e l m h =
    either p.sud (came_up p) (record p { serr = with_place p.serr 26 }) (λ q. has_place (interrupts q) 6 ≡ true) (came_reports p l h)
    (pcs_of_serr (record p { serr = with_place p.serr 26 }) l h ∙ has_place-with_same p.serr 26 (omega (arith, m)))
cominit_reports p Up e l m h = cc
cominit_reports p InReset e l m h = cc
cominit_reports p Offline e l m h = cc

pub plugged_reports : (p : HbaPort) → p.link ≡ Listening → length p.is ≡ 32 → length p.serr ≡ 32 → IsKept p.is → has_place (interrupts (plugged p)) 6 ≡ true
plugged_reports p e l m h = cominit_reports (record p { present = true }) p.link e l m h

pub unknown_reports : (p : HbaPort) → accepts_fis p ≡ true → length p.is ≡ 32 → length p.serr ≡ 32 → IsKept p.is
    → has_place (interrupts (unknown_received p)) 4 ≡ true
unknown_reports p e l m h =
    ap (λ b. has_place (interrupts (if b then record p { serr = with_place p.serr 25 } else p)) 4) e
    ∙ ufs_of_serr (record p { serr = with_place p.serr 25 }) l h ∙ has_place-with_same p.serr 25 (omega (arith, m))
