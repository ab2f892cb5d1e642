-- The laws of what stands behind an opening token, closed over the levels of nesting.
use Rattle.std.proofs.Common.{false, ℕ, zero, suc, ◌≤◌, false, inr, [], ◌++◌, pos, refl, sym, arith, subst}
use Rattle.opl_tree.specs.Marks as mk
use Rattle.opl_grammar.specs.Input.{one, number_in}
use Rattle.opl_data.specs.declared.tree.DataValue.TheVariants as values_are
use Rattle.opl_data.specs.Grammar as g
use Rattle.opl_data.proofs.Parts.{values_law, listed_law, keyed_law}
use Rattle.opl_reader_laws.proofs.Phrases.{Samples, one_law}
use Rattle.opl_data.proofs.Shapes.{number_shape, values_shape, listed_shape, keyed_shape, RulesLaw}
use Rattle.opl_reader_laws.proofs.Takes.{Takes, before}
use Rattle.opl_reader_laws.proofs.Tokens.{number_reads}
use Rattle.opl_data.proofs.Trees.{marks_value-Number}
use Rattle.opl_data.proofs.Values.{value_law}

number_sample : Samples number_shape
number_sample tail h = record {
  whole = before (mk.number (pos 0)) tail;
  value = pos 0;
  takes = ((refl, tt), refl);
  starts = λ F k. refl;
}

values_sample : Samples values_shape
values_sample tail h = record {
  whole = before (mk.number (pos 0)) tail;
  value = (values_are.Number 0 false (pos 0), []);
  takes = subst (λ ms. Takes (ms ++ []) (before (mk.number (pos 0)) tail) tail) (sym (marks_value-Number 0 false (pos 0))) (refl, ((refl, tt), refl));
  starts = λ F k. refl;
}

listed_sample : Samples listed_shape
listed_sample tail h = record { whole = tail; value = []; takes = refl; starts = λ F k. inr k }

keyed_sample : Samples keyed_shape
keyed_sample tail h = record { whole = tail; value = []; takes = refl; starts = λ F k. inr k }

-- with no level left
rules_zero : (k : ℕ) → RulesLaw 0 (g.rules 0) (g.rules k)
unfolding g.rules
rules_zero k = record {
  number = record { levels = record { is = λ at i. refl; sample = number_sample; closing = λ x k h. h; fit = λ c. tt } };
  values = record { levels = record { is = λ at i. refl; sample = values_sample; closing = λ x k h. h; fit = λ c. (tt, tt) } };
  listed = record { levels = record { is = λ at i. refl; sample = listed_sample; closing = λ x k h. h; fit = λ c. tt } };
  keyed = record { levels = record { is = λ at i. refl; sample = keyed_sample; closing = λ x k h. h; fit = λ c. tt } };
}

-- with one more level
rules_next : (n k : ℕ) → RulesLaw n (g.rules n) (g.rules k) → RulesLaw (suc n) (g.rules (suc n)) (g.rules (suc k))
unfolding g.rules g.level
rules_next n k R = record {
  number = record { levels = record { read = one number_in; more = one number_in; is = λ at i. refl; are = λ at i. refl; law = one_law number_reads } };
  values = record { levels = record { read = g.values (g.value_within n); more = g.values (g.value_within k); is = λ at i. refl; are = λ at i. refl; law = values_law (value_law R) } };
  listed = record { levels = record { read = g.listed (g.value_within n); more = g.listed (g.value_within k); is = λ at i. refl; are = λ at i. refl; law = listed_law (value_law R) } };
  keyed = record { levels = record { read = g.keyed (g.value_within n); more = g.keyed (g.value_within k); is = λ at i. refl; are = λ at i. refl; law = keyed_law (value_law R) } };
}

-- what stands behind an opening token, over so many levels and over more
pub rules_law : (n k : ℕ) → n ≤ k → RulesLaw n (g.rules n) (g.rules k)
rules_law zero k h = rules_zero k
rules_law (suc n) zero h = absurd (omega arith)
rules_law (suc n) (suc k) h = rules_next n k (rules_law n k (omega arith))
