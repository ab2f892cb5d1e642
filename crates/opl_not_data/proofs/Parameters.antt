-- The names of parameters are those of no decision variable and no activity: those stand for what they do outside.
use Rattle.std.proofs.Common.{◌≡◌, ℕ, Bool, true, false, not, cond, List, [], ◌∷◌, ◌++◌, length, Option, None, Some, refl, ap, ◌∙◌, sym}
use Rattle.std.specs.Prelude.{bytes_eq, nat_eq}
use Rattle.std.specs.List.{flat_map}
use Rattle.std.proofs.lemmas.Slice.Eq.{bytes_eq-Decides}
use Rattle.opl_tree.specs.declared.expression.NameTree.{NameTree}
use Rattle.opl_tree.specs.declared.expression.PatternTree.{PatternTree}
use Rattle.opl_tree.specs.declared.expression.PatternTree.TheVariants as patterns
use Rattle.opl_type_rules.specs.Types.{Sort, Sorts, sort_list}
use Rattle.opl_type_rules.specs.Types.Sort.{anything}
use Rattle.opl_type_rules.specs.Scope.{Checked, unless, Text, Scope, Thing, lookup, found, declared, is_visible, fresh, all_fresh, with_values, parts_in}
use Rattle.opl_type_rules.specs.Scope.Thing.{value}
use Rattle.opl_type_rules.specs.Expressions.{pattern_names, bind_parts, bind_record, bind_pattern, bind_patterns}
use Rattle.opl_not_data.specs.Mentions.{decided, thing_decided}
use Rattle.opl_not_data.proofs.Outcomes.{Outcome, mismatch, ok, then, unless_new, unless_right, weaker}

-- one more name of a value
declared-by : (b : Bool) (s : Sort) (o : Option Thing) → thing_decided (cond b (Some (value s)) o) ≡ true → thing_decided o ≡ true
declared-by true s o h = absurd (cc)
declared-by false s o h = h

below-declared : (n : Text) (s : Sort) (sc : Scope) (name : Text) → decided (declared n (value s) sc) name ≡ true → decided sc name ≡ true
unfolding decided declared lookup
below-declared n s sc name h = declared-by (bytes_eq name n) s (found name sc.entries) h

-- names of values may hide what is decided, and make nothing decided
pub below-values : (ns : List NameTree) (ss : List Sort) (sc : Scope) (name : Text) → decided (with_values ns ss sc) name ≡ true → decided sc name ≡ true
below-values [] ss sc name h = h
below-values (n ∷ ns) [] sc name h = h
below-values (n ∷ ns) (s ∷ ss) sc name h = below-declared n.text s sc name (below-values ns ss (declared n.text (value s) sc) name h)

module _ (d : Text → Bool) where
  -- each name stands for what it does here
  abbrev pub Keeps : Scope → Type 0
  Keeps sc = (name : Text) → decided sc name ≡ d name

  -- none of these names is decided
  abbrev pub Others : List NameTree → Type 0
  Others [] = Unit {0}
  Others (n ∷ ns) = (d n.text ≡ false) × Others ns

  others-first : (ms ns : List NameTree) → Others (ms ++ ns) → Others ms
  others-first [] ns h = tt
  others-first (m ∷ ms) ns h = (h.0, others-first ms ns h.1)

  others-last : (ms ns : List NameTree) → Others (ms ++ ns) → Others ns
  others-last [] ns h = h
  others-last (m ∷ ms) ns h = others-last ms ns h.1

  still-by : (b : Bool) (name other : Text) (s : Sort) (o : Option Thing) → bytes_eq name other ≡ b → d other ≡ false → thing_decided o ≡ d name → thing_decided (cond b (Some (value s)) o) ≡ d name
  still-by true name other s o is h k = sym (ap d ((bytes_eq-Decides name other).0 is) ∙ h)
  still-by false name other s o is h k = k

  pub keeps-declared : (n : NameTree) (s : Sort) (sc : Scope) → d n.text ≡ false → Keeps sc → Keeps (declared n.text (value s) sc)
  unfolding declared lookup decided
  keeps-declared n s sc h k name = still-by (bytes_eq name n.text) name n.text s (found name sc.entries) refl h (k name)

  fresh-by : (o : Option Thing) (name : Text) → not (is_visible o) ≡ true → thing_decided o ≡ d name → d name ≡ false
  fresh-by None name h k = sym k
  fresh-by (Some thing) name h k = absurd (cc)

  fresh-other : (sc : Scope) (n : NameTree) → Keeps sc → Outcome (λ u. d n.text ≡ false) (λ place. ⊥) (fresh sc n)
  unfolding fresh decided
  fresh-other sc n k = weaker _ _ _ _ (unless (not (is_visible (lookup sc n.text))) _) (unless_new (not (is_visible (lookup sc n.text))) n.at) (λ at q. q) (λ u h. fresh-by (lookup sc n.text) n.text h (k n.text))

  pub fresh-others : (ns : List NameTree) (sc : Scope) → Keeps sc → Outcome (λ u. Others ns) (λ place. ⊥) (all_fresh sc ns)
  unfolding all_fresh
  fresh-others [] sc k = ok (λ u. Others []) (λ place. ⊥) tt tt
  fresh-others (n ∷ ns) sc k =
      then _ _ (λ u. Others (n ∷ ns)) (λ place. ⊥) _ _ (fresh-other sc n k) (λ at q. q)
      (λ u h. weaker _ _ (λ v. Others (n ∷ ns)) (λ place. ⊥) _ (fresh-others ns (declared n.text (value anything) sc) (keeps-declared n anything sc h k)) (λ at q. q) (λ v hs. (h, hs)))

  keeps-with : (ns : List NameTree) (ss : List Sort) (sc : Scope) → Others ns → Keeps sc → Keeps (with_values ns ss sc)
  keeps-with [] ss sc h k = k
  keeps-with (n ∷ ns) [] sc h k = k
  keeps-with (n ∷ ns) (s ∷ ss) sc h k = keeps-with ns ss (declared n.text (value s) sc) h.1 (keeps-declared n s sc h.0 k)

  -- within patterns
  abbrev pub Kept : Checked Scope → Type 0
  Kept c = Outcome Keeps (λ place. ⊥) c

  keeps-parts : (sc : Scope) (at : ℕ) (ns : List NameTree) (o : Option Sorts) → Others ns → Keeps sc → Kept (bind_parts sc at ns o)
  keeps-parts sc at ns None h k = mismatch Keeps (λ place. ⊥) at
  keeps-parts sc at ns (Some ss) h k =
      then _ _ Keeps (λ place. ⊥) _ _ (unless_right (nat_eq (length ns) (length (sort_list ss))) at) (λ at q. q) (λ u e. ok Keeps (λ place. ⊥) (with_values ns (sort_list ss) sc) (keeps-with ns (sort_list ss) sc h k))

  keeps-record : (sc : Scope) (at : ℕ) (ns : List NameTree) (s : Sort) → Others ns → Keeps sc → Kept (bind_record sc at ns s)
  keeps-record sc at ns anything h k = ok Keeps (λ place. ⊥) _ (keeps-with ns _ sc h k)
  keeps-record sc at ns s h k = keeps-parts sc at ns (parts_in sc s) h k

  keeps-pattern : (sc : Scope) (s : Sort) (p : PatternTree) → Others (pattern_names p) → Keeps sc → Kept (bind_pattern sc s p)
  keeps-pattern sc s (patterns.Single name) h k = ok Keeps (λ place. ⊥) (declared name.text (value s) sc) (keeps-declared name s sc h.0 k)
  keeps-pattern sc s (patterns.Record at first rest) h k = keeps-record sc at (first ∷ rest) s h k

  pub keeps-patterns : (ps : List PatternTree) (sc : Scope) (s : Sort) → Others (flat_map pattern_names ps) → Keeps sc → Kept (bind_patterns sc s ps)
  keeps-patterns [] sc s h k = ok Keeps (λ place. ⊥) sc k
  keeps-patterns (p ∷ ps) sc s h k =
      then Keeps (λ place. ⊥) Keeps (λ place. ⊥) _ _ (keeps-pattern sc s p (others-first (pattern_names p) (flat_map pattern_names ps) h) k) (λ at q. q) (λ inner i. keeps-patterns ps inner s (others-last (pattern_names p) (flat_map pattern_names ps) h) i)
