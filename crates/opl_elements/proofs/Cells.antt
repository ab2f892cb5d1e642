-- Elements of arrays.
use Rattle.std.proofs.Common.{◌≡◌, ℕ, zero, suc, ◌+◌, ◌<◌, ◌≤◌, max, ℤ, true, false, cond, nat_lt, is_some, unsigned_abs, List, [], ◌∷◌, map, Option, Some, None, Err, refl, sym, ap, ◌∙◌, arith}
use Rattle.std.specs.Option.{option_map}
use Rattle.std.proofs.lemmas.Option.{slice_get-map}
use Rattle.std.proofs.lemmas.Bool.Decides.{nat_tests}
use Rattle.opl_value.specs.declared.value.Value.{Value}
use Rattle.opl_eval.specs.declared.fault.EvalFault.TheVariants.{OutOfIndex}
use Rattle.opl_eval.specs.Compare as compare
use Rattle.opl_meaning.specs.declared.variable.Kind.{Kind}
use Rattle.opl_draft.specs.Drafts.{Cells}
use Rattle.opl_draft.specs.Drafts.Leaves.{numbered}
use Rattle.opl_expr.specs.declared.forms.Cons.TheOpen.{Expr-F}
use Rattle.opl_expr.specs.declared.forms.Cons.TheFolds.{fold-roll-Expr}
use Rattle.opl_expr.specs.declared.forms.Expr.{Expr}
use Rattle.opl_expr.specs.declared.forms.Expr.TheVariants as E
use Rattle.opl_expr.specs.declared.tables.Cell.TheVariants as cell
use Rattle.opl_expr.specs.Sound.{cells_magnitude, greatest_abs, table_magnitude, term_magnitude, var_magnitude}
use Rattle.opl_expr.proofs.Plain.{term_At}
use Rattle.opl_form.specs.Parts.{Form, all_known, number_cells, ranked, table_of, tables}
use Rattle.opl_form.specs.Made.{array_of}
use Rattle.opl_form.specs.Measures.{cons_depth, cons_nodes, depth, expr_depth, expr_nodes, greatest, nodes, total}
use Rattle.opl_form.specs.Nodes.{Made, element_at, element_node, element_sort, indexed, looked_up, placed, variable_sort, with_indices}
use Rattle.opl_form.specs.Nodes.Fault.{eval, large}
use Rattle.opl_nodes.specs.declared.context.Context.{Context}
use Rattle.opl_nodes.specs.declared.part.Part.{Part}
use Rattle.opl_nodes.specs.Contexts.{arrays, sets}
use Rattle.opl_nodes.specs.Pieces.{forms, magnitude}
use Rattle.opl_elements.specs.Places as spec
use Rattle.opl_elements.specs.Places.{all_fit, first_large, key_place, rank}
use Rattle.opl_elements.specs.Runs.{run_sizes}
use Rattle.opl_elements.proofs.Selected.{all-fit, indices-tested, key-place, or_large}

-- ---- parts in the order of values

pub ranks-forms : (ps : List Part) → map ranked (forms ps) ≡ map rank ps
ranks-forms [] = refl
ranks-forms (p ∷ ps) = ap (λ es. rank p ∷ es) (ranks-forms ps)

depths-ranks : (ps : List Part) → map depth (map rank ps) ≡ spec.depths ps
depths-ranks [] = refl
depths-ranks (p ∷ ps) = ap (λ ds. depth (rank p) ∷ ds) (depths-ranks ps)

nodes-ranks : (ps : List Part) → map nodes (map rank ps) ≡ spec.nodes ps
nodes-ranks [] = refl
nodes-ranks (p ∷ ps) = ap (λ ns. nodes (rank p) ∷ ns) (nodes-ranks ps)

depth-At : (k : ℕ) (es : List Expr) → depth (E.At k es) ≡ suc (greatest (map depth es))
unfolding depth
depth-At k es = ap depth (sym (E.rolls-At k es)) ∙ fold-roll-Expr ℕ ℕ cons_depth expr_depth (Expr-F.At k es)

nodes-At : (k : ℕ) (es : List Expr) → nodes (E.At k es) ≡ suc (total (map nodes es))
unfolding nodes
nodes-At k es = ap nodes (sym (E.rolls-At k es)) ∙ fold-roll-Expr ℕ ℕ cons_nodes expr_nodes (Expr-F.At k es)

one-more : (n m : ℕ) → n ≡ m → n + 1 ≡ suc m
one-more n m h = omega (arith, h)

pub cell-depth : (k d : ℕ) (ps : List Part) (es : List Expr) (e : Expr) → d ≡ greatest (spec.depths ps) → es ≡ map rank ps → e ≡ E.At k es → d + 1 ≡ depth e
cell-depth k d ps es e h i j =
    one-more d (greatest (spec.depths ps)) h
    ∙ sym (ap depth (j ∙ ap (E.At k) i) ∙ depth-At k (map rank ps) ∙ ap (λ ds. suc (greatest ds)) (depths-ranks ps))

pub cell-nodes : (k m n : ℕ) (ps : List Part) (es : List Expr) (e : Expr) → m ≡ total (spec.nodes ps) → n ≡ m + 1 → es ≡ map rank ps → e ≡ E.At k es → n ≡ nodes e
cell-nodes k m n ps es e h l i j =
    l ∙ one-more m (total (spec.nodes ps)) h
    ∙ sym (ap nodes (j ∙ ap (E.At k) i) ∙ nodes-At k (map rank ps) ∙ ap (λ ns. suc (total ns)) (nodes-ranks ps))

-- ---- magnitudes

pub listed-size : (sets : List (ℤ × ℤ)) (vs : List Value) → greatest_abs (map compare.rank vs) ≡ cells_magnitude sets (map (λ v. cell.Const (compare.rank v)) vs)
listed-size sets [] = refl
listed-size sets (v ∷ vs) = ap (λ n. max (unsigned_abs (compare.rank v)) n) (listed-size sets vs)

pub numbered-size : (sets : List (ℤ × ℤ)) (kind : Kind) (x n : ℕ) → greatest (run_sizes sets x n) ≡ cells_magnitude sets (number_cells kind x n)
numbered-size sets kind x zero = refl
numbered-size sets kind x (suc n) = ap (λ m. max (var_magnitude sets x) m) (numbered-size sets kind (suc x) n)

module _ (c : Context) where
  pub magnitude-At : (k : ℕ) (a : Cells) (es : List Expr) → array_of (arrays c) (Some k) ≡ Some a → magnitude c (E.At k es) ≡ max 1 (cells_magnitude (sets c) (table_of a).cells)
  unfolding magnitude
  magnitude-At k a es h =
      ap (term_magnitude (sets c)) (term_At (tables (arrays c)) [] k es)
      ∙ ap (λ t. max 1 (table_magnitude (sets c) t)) (slice_get-map table_of (arrays c) k ∙ ap (option_map table_of) h)

  module _ (at n k : ℕ) (a : Cells) (ats : List ℕ) where
    -- ---- keys without variables

    pub looked-known : (gs : List Form) → is_some (all_known gs) ≡ true →
        looked_up (sets c) (arrays c) c.item at n (all_known gs) k a ats gs ≡ placed (sets c) (arrays c) c.item at n a.leaves (key_place a.dims gs)
    looked-known gs h = by (all_known gs) refl h
      where
        by : (o : Option (List Value)) → all_known gs ≡ o → is_some o ≡ true → looked_up (sets c) (arrays c) c.item at n o k a ats gs ≡ placed (sets c) (arrays c) c.item at n a.leaves (key_place a.dims gs)
        by None e h = absurd (cc)
        by (Some vs) e h = ap (placed (sets c) (arrays c) c.item at n a.leaves) (sym (key-place a.dims gs vs e))

    pub looked-live : (gs : List Form) → is_some (all_known gs) ≡ false →
        looked_up (sets c) (arrays c) c.item at n (all_known gs) k a ats gs ≡ looked_up (sets c) (arrays c) c.item at n None k a ats gs
    looked-live gs h = by (all_known gs) h
      where
        by : (o : Option (List Value)) → is_some o ≡ false → looked_up (sets c) (arrays c) c.item at n o k a ats gs ≡ looked_up (sets c) (arrays c) c.item at n None k a ats gs
        by None h = refl
        by (Some vs) h = absurd (cc)

    -- ---- subscripts with variables

    abbrev node : List Form → Made Form
    node gs = element_node (sets c) (arrays c) c.item (element_sort (sets c) a.leaves) at n (E.At k (map ranked gs))

    abbrev tested : List Form → Made Form
    tested gs = with_indices (sets c) (arrays c) c.item a.dims ats gs (node gs)

    live : (gs : List Form) → looked_up (sets c) (arrays c) c.item at n None k a ats gs ≡ cond (all_fit a.dims gs) (tested gs) (Err (eval (OutOfIndex at)))
    live gs = ap (λ b. cond b (tested gs) (Err (eval (OutOfIndex at)))) (all-fit a.dims gs)

    pub live-outside : (gs : List Form) → all_fit a.dims gs ≡ false → looked_up (sets c) (arrays c) c.item at n None k a ats gs ≡ Err (eval (OutOfIndex at))
    live-outside gs h = live gs ∙ ap (λ b. cond b (tested gs) (Err (eval (OutOfIndex at)))) h

    inside : (gs : List Form) → all_fit a.dims gs ≡ true → looked_up (sets c) (arrays c) c.item at n None k a ats gs ≡ or_large (first_large c a.dims ats gs) (node gs)
    inside gs h = live gs ∙ ap (λ b. cond b (tested gs) (Err (eval (OutOfIndex at)))) h ∙ indices-tested c Form (node gs) a.dims ats gs

    pub live-large : (gs : List Form) (p : ℕ) → all_fit a.dims gs ≡ true → first_large c a.dims ats gs ≡ Some p → looked_up (sets c) (arrays c) c.item at n None k a ats gs ≡ Err (large p)
    live-large gs p h l = inside gs h ∙ ap (λ o. or_large o (node gs)) l

    pub live-inside : (ps : List Part) → all_fit a.dims (forms ps) ≡ true → first_large c a.dims ats (forms ps) ≡ None →
        looked_up (sets c) (arrays c) c.item at n None k a ats (forms ps) ≡ element_node (sets c) (arrays c) c.item (element_sort (sets c) a.leaves) at n (E.At k (map rank ps))
    live-inside ps h l = inside (forms ps) h ∙ ap (λ o. or_large o (node (forms ps))) l ∙ ap (λ es. element_node (sets c) (arrays c) c.item (element_sort (sets c) a.leaves) at n (E.At k es)) (ranks-forms ps)

  -- ---- variables among elements

  module _ (at n : ℕ) (kind : Kind) (x count p : ℕ) where
    pub variable-outside : count ≤ p → element_at (sets c) (arrays c) c.item at n (numbered kind x count) p ≡ Err (eval (OutOfIndex at))
    variable-outside h = ap (λ b. cond b (element_node (sets c) (arrays c) c.item (variable_sort (sets c) kind (x + p)) at n (E.Var (x + p))) (Err (eval (OutOfIndex at)))) (is-above p count h)
      where
        is-above : (p n : ℕ) → n ≤ p → nat_lt p n ≡ false
        is-above p n h = grind (arith, nat_tests)

    pub variable-inside : p < count → element_at (sets c) (arrays c) c.item at n (numbered kind x count) p ≡ element_node (sets c) (arrays c) c.item (variable_sort (sets c) kind (x + p)) at n (E.Var (x + p))
    variable-inside h = ap (λ b. cond b (element_node (sets c) (arrays c) c.item (variable_sort (sets c) kind (x + p)) at n (E.Var (x + p))) (Err (eval (OutOfIndex at)))) (is-below p count h)
      where
        is-below : (p n : ℕ) → p < n → nat_lt p n ≡ true
        is-below p n h = grind (arith, nat_tests)

-- ---- arrays by their numbers

module _ (c : Context) (at n : ℕ) (o : Option ℕ) (ats : List ℕ) (gs : List Form) where
  abbrev by_number : Option ℕ → Option Cells → Made Form
  by_number o a = indexed (sets c) (arrays c) c.item at n o a ats gs

  pub indexed-some : (k : ℕ) (a : Cells) → o ≡ Some k → array_of (arrays c) (Some k) ≡ Some a → indexed (sets c) (arrays c) c.item at n o (array_of (arrays c) o) ats gs ≡ looked_up (sets c) (arrays c) c.item at n (all_known gs) k a ats gs
  indexed-some k a h l = ap (λ o. by_number o (array_of (arrays c) o)) h ∙ ap (by_number (Some k)) l

  pub indexed-missing : (k : ℕ) → o ≡ Some k → array_of (arrays c) (Some k) ≡ None → indexed (sets c) (arrays c) c.item at n o (array_of (arrays c) o) ats gs ≡ Err (eval (OutOfIndex at))
  indexed-missing k h l = ap (λ o. by_number o (array_of (arrays c) o)) h ∙ ap (by_number (Some k)) l

  pub indexed-none : o ≡ None → indexed (sets c) (arrays c) c.item at n o (array_of (arrays c) o) ats gs ≡ Err (eval (OutOfIndex at))
  indexed-none h = ap (λ o. by_number o (array_of (arrays c) o)) h
