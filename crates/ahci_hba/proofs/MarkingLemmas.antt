-- A queued read that finds a marked sector fails there, or is served if its request hasn't that sector.
use Rattle.std.proofs.Common.{◌≡◌, ℕ, true, false, None, Some, if◌then◌else◌, ap, subst, sym, ◌∙◌}
use Rattle.ahci_hba.specs.Failing.{Fails, own_in}
use Rattle.ahci_hba.specs.HbaView.{HbaView}
use Rattle.ahci_hba.specs.Queueing.{IsServed, command_at, list_in, task_in}
use Rattle.ahci_hba.specs.Stepping.{Serves, ServesTo, marked_at, may_fail, stop_for}

pub fails_marked : (h new : HbaView) (slot lba : ℕ) → marked_at h slot ≡ Some lba → may_fail h slot lba ≡ true → Fails slot 0x40 lba (own_in h slot lba) h new
    → ServesTo (stop_for h slot (marked_at h slot)) slot h new
fails_marked h new slot lba found may f =
    subst (λ o. ServesTo o slot h new) (sym (ap (stop_for h slot) found ∙ ap (λ b. if b then Some lba else None) may)) f

pub stops_nowhere : (h : HbaView) (slot : ℕ) → marked_at h slot ≡ None → stop_for h slot (marked_at h slot) ≡ None
stops_nowhere h slot none = ap (stop_for h slot) none

pub cannot_stop : (h : HbaView) (slot lba : ℕ) → marked_at h slot ≡ Some lba → may_fail h slot lba ≡ false → stop_for h slot (marked_at h slot) ≡ None
cannot_stop h slot lba found may = ap (stop_for h slot) found ∙ ap (λ b. if b then Some lba else None) may

-- what nothing stops is served
pub serves_whole : (h mid new : HbaView) (slot : ℕ) → stop_for h slot (marked_at h slot) ≡ None → mid ≡ h
    → IsServed slot (task_in (command_at mid slot)) (list_in (command_at mid slot)) mid new → Serves slot h new
serves_whole h mid new slot none same served =
    subst (λ o. ServesTo o slot h new) (sym none) (subst (λ v. IsServed slot (task_in (command_at v slot)) (list_in (command_at v slot)) v new) same served)
