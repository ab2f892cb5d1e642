use Rattle.std.proofs.Common.{◌%◌, refl}
use Rattle.std.proofs.lemmas.Nat.Bits.{shr_and_one}
use Rattle.opl_trail.specs.Gone.{is_gone}
use Rattle.opl_store.proofs.set.is_gone.Goals as goal

pub returns : goal.returns
unfolding is_gone
returns c = rw (shr_and_one c.word.result (c.args.place % 64), c.word.ensures) refl
