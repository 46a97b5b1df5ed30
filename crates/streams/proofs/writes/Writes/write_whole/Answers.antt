use Rattle.std.proofs.Common.{◌≡◌, ◌∙◌, ℕ, ◌+◌, ◌-◌, List, ◌++◌, length, length-drop, take, drop, subst, arith, ap, sym}
use Rattle.std.proofs.Math.Seq.{take-add}
use Rattle.std.proofs.lemmas.List.{take_rest}
use Rattle.std.specs.Io.KnownBytes.{Appends}
use Rattle.std.proofs.KnownBytes.{Appends-trans}
use Rattle.streams.specs.Ends.{WrittenSoFar}
use Rattle.streams.proofs.writes.Writes.write_whole.Goals as goal

-- the first bytes, and then the first of those that are left
joined : (bytes : List ℕ) (sent n : ℕ) → take sent bytes ++ take n (take (length bytes - sent) (drop sent bytes)) ≡ take (sent + n) bytes
joined bytes sent n = rw (take_rest bytes sent) (sym (take-add sent n bytes))

-- those that are left are so many
left : (bytes : List ℕ) (sent : ℕ) → length (take (length bytes - sent) (drop sent bytes)) ≡ length bytes - sent
left bytes sent = rw (take_rest bytes sent) (length-drop sent bytes)

pub loop-sent-preserved : goal.loop-sent-preserved
loop-sent-preserved g c = record {
  within = let most = c.in_ok-sent.ensures.most in let is = left c.args.bytes.now c.loop-sent.sent in omega (arith, most, is, c.loop-sent.invariant.within);
  written = subst (Appends _ _) (joined c.args.bytes.now c.loop-sent.sent c.in_ok-sent.field-0) (Appends-trans _ _ _ _ _ c.loop-sent.invariant.written c.in_ok-sent.ensures.written);
  unfailed = ap (λ (w : WrittenSoFar). w.failed) c.in_ok-sent.ensures.ok ∙ c.loop-sent.invariant.unfailed;
}
