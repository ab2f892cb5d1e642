use Rattle.std.proofs.Common.{◌≡◌, ◌++◌, drop, map}
use Rattle.opl_ground_text.specs.Texts.{cons_text, expr_text, spaced}
use Rattle.opl_ground_text.proofs.forms.+texts.Given as goal

abbrev pub invariant-push_spaced-loop-part : goal.invariant-push_spaced-loop-part
invariant-push_spaced-loop-part l =
    l.fn.text.items ++ spaced (map (expr_text l.core) l.parts) ≡ l.text.items ++ spaced (map (expr_text l.core) (drop l.part-index l.parts))

abbrev pub invariant-push_cons_spaced-loop-part : goal.invariant-push_cons_spaced-loop-part
invariant-push_cons_spaced-loop-part l =
    l.fn.text.items ++ spaced (map (cons_text l.core) l.parts) ≡ l.text.items ++ spaced (map (cons_text l.core) (drop l.part-index l.parts))
