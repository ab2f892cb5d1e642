-- A limit that is not reached changes nothing.
use Rattle.std.proofs.Common.{length, refl}
use Rattle.opl_trace.specs.Marks.{solved}
use Rattle.opl_solve.specs.Laws.{UnreachedLimit}
use Rattle.opl_solve.specs.Texts.{search_text}
use Rattle.opl_solve.proofs.Limits.{is_less, made-all, take-all}

pub unreached_limit : UnreachedLimit
unfolding search_text
unreached_limit goal names items is_each n out h =
    rw (take-all n (solved out.marks) h, is_less n (length (solved out.marks)) h, made-all n out.marks h) refl
