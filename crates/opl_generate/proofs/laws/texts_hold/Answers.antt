use Rattle.std.proofs.Common.{refl}
use Rattle.std.specs.Fmt.{digits}
use Rattle.rand_core.specs.Pcg32Seed.{pcg32_seed}
use Rattle.rand_core.specs.Steps.{first_words, u32_at, word_bytes}
use Rattle.opl_generate.proofs.laws.texts_hold.Goals as goal

pub returns : goal.returns
unfolding first_words u32_at pcg32_seed word_bytes digits
returns c = (refl, refl)
