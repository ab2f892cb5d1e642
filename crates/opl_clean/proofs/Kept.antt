-- Names of parameters hide no decision variable, since they may not be visible before.
use Rattle.std.proofs.Common.{◌≡◌, ℕ, Bool, true, false, not, cond, List, [], ◌∷◌, ◌++◌, length, Option, None, Some, Ok, Err, refl, ap, ◌∙◌, sym, subst}
use Rattle.std.specs.Prelude.{bytes_eq, nat_eq}
use Rattle.std.specs.List.{flat_map}
use Rattle.std.proofs.lemmas.Slice.Eq.{bytes_eq-Decides}
use Rattle.opl_tree.specs.declared.expression.NameTree.{NameTree}
use Rattle.opl_tree.specs.declared.expression.PatternTree.{PatternTree}
use Rattle.opl_tree.specs.declared.expression.PatternTree.TheVariants as patterns
use Rattle.opl_type_rules.specs.declared.fault.TypeFault.TheVariants.{Duplicate, Mismatch}
use Rattle.opl_type_rules.specs.Types.{Sort, Sorts, sort_list}
use Rattle.opl_type_rules.specs.Types.Sort.{anything}
use Rattle.opl_type_rules.specs.Scope.{Checked, unless, Text, Scope, Thing, lookup, found, declared, is_visible, fresh, all_fresh, with_values, parts_in}
use Rattle.opl_type_rules.specs.Scope.Thing.{value, variable}
use Rattle.opl_type_rules.specs.Expressions.{pattern_names, bind_parts, bind_record, bind_pattern, bind_patterns}
use Rattle.opl_clean.specs.Mentions.{is_among, KeepsVariables}
use Rattle.opl_clean.proofs.Lawful.{Holds, ok, fault, then, weaker, unless_holds}

-- it stands for a decision variable
abbrev IsVariable : Option Thing → Type 0
IsVariable o = (s : Sort) × (o ≡ Some (variable s))

module _ (names : List Text) where
  -- none of these names is a variable's
  abbrev pub Others : List NameTree → Type 0
  Others [] = Unit {0}
  Others (n ∷ ns) = (is_among names n.text ≡ false) × Others ns

  others-first : (ms ns : List NameTree) → Others (ms ++ ns) → Others ms
  others-first [] ns h = tt
  others-first (m ∷ ms) ns h = (h.0, others-first ms ns h.1)

  others-last : (ms ns : List NameTree) → Others (ms ++ ns) → Others ns
  others-last [] ns h = h
  others-last (m ∷ ms) ns h = others-last ms ns h.1

  still-by : (b : Bool) (name other : Text) (thing : Thing) (o : Option Thing) → bytes_eq name other ≡ b → is_among names name ≡ true → is_among names other ≡ false → IsVariable o → IsVariable (cond b (Some thing) o)
  still-by true name other thing o is m h v = let same = ap (is_among names) ((bytes_eq-Decides name other).0 is) in absurd (cc)
  still-by false name other thing o is m h v = v

  pub keeps-declared : (n : NameTree) (thing : Thing) (sc : Scope) → is_among names n.text ≡ false → KeepsVariables names sc → KeepsVariables names (declared n.text thing sc)
  unfolding declared lookup
  keeps-declared n thing sc h k = record {
    no_search = k.no_search;
    visible = λ name m. still-by (bytes_eq name n.text) name n.text thing (found name sc.entries) refl m h (k.visible name m);
  }

  fresh-by : (b : Bool) (o : Option Thing) → not (is_visible o) ≡ true → (b ≡ true → IsVariable o) → b ≡ false
  fresh-by true o h v = let w = v refl in let e = ap is_visible w.1 in absurd (let g = ap not e in cc)
  fresh-by false o h v = refl

  pub fresh-other : (sc : Scope) (n : NameTree) → KeepsVariables names sc → Holds (λ u. is_among names n.text ≡ false) (fresh sc n)
  unfolding fresh
  fresh-other sc n k = weaker (λ u. not (is_visible (lookup sc n.text)) ≡ true) (λ u. is_among names n.text ≡ false) _ (unless_holds (not (is_visible (lookup sc n.text))) (Duplicate n.at)) (λ u h. fresh-by (is_among names n.text) (lookup sc n.text) h (k.visible n.text))

  pub fresh-others : (ns : List NameTree) (sc : Scope) → KeepsVariables names sc → Holds (λ u. Others ns) (all_fresh sc ns)
  unfolding all_fresh
  fresh-others [] sc k = ok (λ u. Others []) tt tt
  fresh-others (n ∷ ns) sc k =
      then (λ u. is_among names n.text ≡ false) (λ u. Others (n ∷ ns)) _ _ (fresh-other sc n k) (λ u h. weaker (λ v. Others ns) (λ v. Others (n ∷ ns)) _ (fresh-others ns (declared n.text (value anything) sc) (keeps-declared n (value anything) sc h k)) (λ v hs. (h, hs)))

  keeps-with : (ns : List NameTree) (ss : List Sort) (sc : Scope) → Others ns → KeepsVariables names sc → KeepsVariables names (with_values ns ss sc)
  keeps-with [] ss sc h k = k
  keeps-with (n ∷ ns) [] sc h k = k
  keeps-with (n ∷ ns) (s ∷ ss) sc h k = keeps-with ns ss (declared n.text (value s) sc) h.1 (keeps-declared n (value s) sc h.0 k)

  keeps-parts : (sc : Scope) (at : ℕ) (ns : List NameTree) (o : Option Sorts) → Others ns → KeepsVariables names sc → Holds (KeepsVariables names) (bind_parts sc at ns o)
  keeps-parts sc at ns None h k = fault _ (Mismatch at)
  keeps-parts sc at ns (Some ss) h k = then _ _ _ _ (unless_holds (nat_eq (length ns) (length (sort_list ss))) (Mismatch at)) (λ u e. ok _ _ (keeps-with ns (sort_list ss) sc h k))

  keeps-record : (sc : Scope) (at : ℕ) (ns : List NameTree) (s : Sort) → Others ns → KeepsVariables names sc → Holds (KeepsVariables names) (bind_record sc at ns s)
  keeps-record sc at ns anything h k = ok _ _ (keeps-with ns _ sc h k)
  keeps-record sc at ns s h k = keeps-parts sc at ns (parts_in sc s) h k

  keeps-pattern : (sc : Scope) (s : Sort) (p : PatternTree) → Others (pattern_names p) → KeepsVariables names sc → Holds (KeepsVariables names) (bind_pattern sc s p)
  keeps-pattern sc s (patterns.Single name) h k = ok _ _ (keeps-declared name (value s) sc h.0 k)
  keeps-pattern sc s (patterns.Record at first rest) h k = keeps-record sc at (first ∷ rest) s h k

  pub keeps-patterns : (ps : List PatternTree) (sc : Scope) (s : Sort) → Others (flat_map pattern_names ps) → KeepsVariables names sc → Holds (KeepsVariables names) (bind_patterns sc s ps)
  keeps-patterns [] sc s h k = ok _ sc k
  keeps-patterns (p ∷ ps) sc s h k =
      then _ _ _ _ (keeps-pattern sc s p (others-first (pattern_names p) (flat_map pattern_names ps) h) k) (λ inner i. keeps-patterns ps inner s (others-last (pattern_names p) (flat_map pattern_names ps) h) i)
