-- What is told after calls.
use Rattle.std.proofs.Common.{Option, Some, None}
use Rattle.opl_outside.specs.Becomes.{Becomes}

-- what is told after one call and after another
pub becomes_then : {A : Type 0} (old mid new : Option A) (P Q R : A → A → Type 0) → ((x y z : A) → P x y → Q y z → R x z) →
    Becomes old mid P → Becomes mid new Q → Becomes old new R
becomes_then None mid new P Q R both p q = tt
becomes_then (Some x) None new P Q R both p q = absurd p
becomes_then (Some x) (Some y) None P Q R both p q = absurd q
becomes_then (Some x) (Some y) (Some z) P Q R both p q = both x y z p q

pub becomes_so : {A : Type 0} (old new : Option A) (P Q : A → A → Type 0) → ((x y : A) → P x y → Q x y) → Becomes old new P → Becomes old new Q
becomes_so None new P Q so p = tt
becomes_so (Some x) None P Q so p = absurd p
becomes_so (Some x) (Some y) P Q so p = so x y p

pub becomes_same : {A : Type 0} (o : Option A) (P : A → A → Type 0) → ((x : A) → P x x) → Becomes o o P
becomes_same None P same = tt
becomes_same (Some x) P same = same x
