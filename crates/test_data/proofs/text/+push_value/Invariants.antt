-- What a recursion over the parts of a value takes less of: how deep it may still go.
use Rattle.test_data.proofs.text.+push_value.Given as goal

abbrev pub decreases-push_value : goal.decreases-push_value
decreases-push_value l = l.depth
