-- Nothing is set, and the bases are those that were asked for.
use Rattle.std.proofs.Common.{sym, subst, refl, arith}
use Rattle.word_bits.proofs.BitsLemmas.{bits_zero}
use Rattle.hba_regs.specs.HbaState.{IsKept}
use Rattle.hba_regs.proofs.StateLemmas.{first_power, kept-none, none_enabled, zero_below}
use Rattle.hba_regs.proofs.port.Port.up.Goals as goal

pub invariant_of-result : goal.invariant_of-result
invariant_of-result c = record {
  capable = c.keeps_its_rules.ensures;
  clb = c.requires.clb;
  fb = c.requires.fb;
  reach = c.requires.reach;
  is = subst IsKept (sym bits_zero) kept-none;
  ie = none_enabled;
  stopped = λ e. (bits_zero, bits_zero);
  sact = zero_below _;
  ci = zero_below _;
  power = first_power _;
  sctl = omega arith;
  link = refl;
  present = λ e. refl;
  ccs = omega arith;
  speed = omega (arith, c.iss.ensures.value);
  first = omega (arith, c.keeps_its_rules.ensures.0);
}
