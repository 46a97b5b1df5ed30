-- A command that the device answers is one that was read.
use Rattle.std.proofs.Common.{◌≡◌, Bool, true, ◌&&◌, Option, None, Some}
use Rattle.std.proofs.lemmas.Bool.{and_parts}
use Rattle.hba_command.specs.Action.{action_of}
use Rattle.ahci_hba.specs.HbaView.{CommandView, Fetched, Sent, HbaView}
use Rattle.ahci_hba.specs.Queueing.{task_in}
use Rattle.ahci_hba.specs.Stepping.{is_answered, is_answered_at}

answers_what_is_read : (h : HbaView) (c : Option CommandView) → is_answered_at h c ≡ true → is_answered h (action_of (task_in c)) ≡ true
answers_what_is_read h None e = cc
answers_what_is_read h (Some (Fetched t list bytes)) e = e
answers_what_is_read h (Some (Sent t list)) e = cc

pub answers_task : (h : HbaView) (c : Option CommandView) (ready : Bool) → (ready && is_answered_at h c) ≡ true → is_answered h (action_of (task_in c)) ≡ true
answers_task h c ready e = answers_what_is_read h c (and_parts ready (is_answered_at h c) e).1
