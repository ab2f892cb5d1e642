use Rattle.std.proofs.Common.{◌≡◌, ◌≤◌, ◌++◌, ℕ, List}
use Rattle.opl_show.specs.Courses.{distance_of, to_write}
use Rattle.opl_show.proofs.course.Course.advance.Given as goal

abbrev pub invariant-loop : goal.invariant-loop
invariant-loop l = record {
  text : (cells : List (List ℕ)) → l.fn.text.items ++ to_write l.fn.self cells ≡ l.text.items ++ to_write l.self cells;
  nearer : distance_of l.self ≤ distance_of l.fn.self;
}

abbrev pub decreases-loop : goal.decreases-loop
decreases-loop l = distance_of l.self
