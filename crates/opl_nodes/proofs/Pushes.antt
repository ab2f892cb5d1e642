-- Parts with one part more.
use Rattle.std.proofs.Common.{◌≡◌, ℕ, ◌+◌, ◌&&◌, List, [], ◌∷◌, ◌++◌, is_some, sym, ap, subst, ◌∙◌, arith}
use Rattle.std.specs.List.{All}
use Rattle.std.proofs.lemmas.List.{map-append}
use Rattle.std.proofs.lemmas.List.Elements.{All-append, All-cons, All-nil}
use Rattle.opl_form.specs.Parts.{Form, all_known}
use Rattle.opl_form.specs.Measures.{all_nodes, part_nodes}
use Rattle.opl_form.specs.Nodes.{next}
use Rattle.opl_nodes.specs.declared.context.Context.{Context}
use Rattle.opl_nodes.specs.declared.part.Part.{Part}
use Rattle.opl_nodes.specs.declared.parts.Parts.{Parts}
use Rattle.opl_nodes.specs.Pieces.{AreParts, IsPart, form, forms, value_of}
use Rattle.opl_nodes.proofs.Knowns.{known-push}

nodes-push : (gs : List Form) (g : Form) → all_nodes (gs ++ g ∷ []) ≡ all_nodes gs + part_nodes g
nodes-push [] g = omega arith
nodes-push (h ∷ gs) g = let e = nodes-push gs g in omega (arith, e)

pub forms-push : (ps : List Part) (p : Part) → forms (ps ++ p ∷ []) ≡ forms ps ++ form p ∷ []
forms-push ps p = map-append form ps (p ∷ [])

count : (next before all own k l m : ℕ) → next ≡ before + all → own ≡ k → l ≡ all + k → m ≡ next + own → m ≡ before + l
count next before all own k l m h i j o = omega (arith, h, i, j, o)

pub pushed : (c : Context) (a b : Parts) (p : Part) → b.items ≡ a.items ++ p ∷ [] → b.before ≡ a.before → b.next ≡ a.next + p.nodes → b.are_known ≡ (a.are_known && is_some (value_of (form p))) → AreParts c a → IsPart c p → AreParts c b
pushed c a b p h k l m q r =
    let gs : List Form = forms a.items in
    let fs : forms b.items ≡ gs ++ form p ∷ [] = ap forms h ∙ forms-push a.items p in
    record {
      next = count a.next a.before (all_nodes gs) p.nodes (part_nodes (form p)) (all_nodes (forms b.items)) b.next q.next r.nodes (ap all_nodes fs ∙ nodes-push gs (form p)) l ∙ ap (λ n. n + all_nodes (forms b.items)) (sym k);
      are_known = m ∙ ap (λ x. x && is_some (value_of (form p))) q.are_known ∙ sym (known-push gs (form p)) ∙ ap (λ gs. is_some (all_known gs)) (sym fs);
      each = subst (All (IsPart c)) (sym h) (All-append (IsPart c) a.items (p ∷ []) q.each (All-cons (IsPart c) p [] r (All-nil (IsPart c))));
    }
