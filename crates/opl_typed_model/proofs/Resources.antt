-- What is required, by typing and by the relation.
use Rattle.std.proofs.Common.{◌≡◌, ℕ, Bool, true, ◌&&◌, List, [], ◌++◌, map, Option, Some, None, Ok, refl, ap, ◌∙◌, sym, subst}
use Rattle.std.specs.List.{list_all}
use Rattle.opl_tree.specs.declared.expression.AddTree.{AddTree}
use Rattle.opl_tree.specs.declared.expression.NameTree.{NameTree}
use Rattle.opl_tree.specs.declared.expression.SubscriptsTree.{SubscriptsTree}
use Rattle.opl_tree.specs.declared.instruction.RequiresTree.{RequiresTree}
use Rattle.opl_type_rules.specs.declared.fault.TypeFault.{TypeFault}
use Rattle.opl_type_rules.specs.declared.fault.TypeFault.TheVariants.{Mismatch}
use Rattle.opl_type_rules.specs.Types.{Sort, is_activity}
use Rattle.opl_type_rules.specs.Types.Sort.{array}
use Rattle.opl_type_rules.specs.Scope.{and_then, unless, Scope, Thing, lookup}
use Rattle.opl_type_rules.specs.Scope.Thing.{resource}
use Rattle.opl_type_rules.specs.Forms.{Form, form_post, form_subscripts, forms_of}
use Rattle.opl_type_rules.specs.Expressions.{Node, part, any_type, kinds, kinds_in, is_data, subscripts_fit, typing, typed_parts}
use Rattle.opl_type_rules.specs.Expressions.Need.{nothing}
use Rattle.opl_expression_types.specs.Numbers.{maybe_number}
use Rattle.opl_item_types.specs.Items.{known, subscript_nodes, is_demanded, is_resource_of, is_resource, requires}
use Rattle.opl_typed.specs.Relation.{Typed, IsData, Each, SubscriptsFit, typed_of}
use Rattle.opl_typed.proofs.Lawful.{sound, complete}
use Rattle.opl_typed.proofs.Steps.{both-true, true-both, went, goes, passed, unit-ok}
use Rattle.opl_typed.proofs.Sound.{all-sound}
use Rattle.opl_typed.proofs.Complete.{all-complete}
use Rattle.opl_typed.proofs.Parts.{fit-has, has-fit, each-of-nodes, of-each-nodes}
use Rattle.opl_typed_model.specs.Places.{Stands}
use Rattle.opl_typed_model.specs.Parts.{IsDemanded, IsElementOf, IsResource, IsTyped}
use Rattle.opl_typed_model.specs.Parts.Part.{precedence, requirement}
use Rattle.opl_typed_model.proofs.Places.{maybe-sound, maybe-complete}

-- ---- one of a type, as a part

pub part-sound : (sc : Scope) (takes : Sort → Bool) (f : Form) (n : Node) → and_then (typing sc f) part ≡ Ok n → takes n.sort ≡ true → Stands sc nothing takes f
part-sound sc takes f n h g = (typed_of n, (sound sc f nothing any_type n h).0, tt, g)

pub part-complete : (sc : Scope) (takes : Sort → Bool) (f : Form) → Stands sc nothing takes f → (n : Node) × (and_then (typing sc f) part ≡ Ok n) × (takes n.sort ≡ true)
part-complete sc takes f h =
    let k = complete sc f nothing any_type h.0 (h.1, tt, refl) in (k.0, k.1, ap (λ (a : Typed). takes a.sort) k.2 ∙ h.3)

pub pass : (b : Bool) (e : TypeFault) → b ≡ true → unless b e ≡ Ok tt
pass b e h = ap (λ c. unless c e) h

-- ---- resources

known-has : (name : NameTree) (o : Option Thing) (thing : Thing) → known name o ≡ Ok thing → o ≡ Some thing
known-has name None thing h = absurd (cc)
known-has name (Some t) thing h = cc

demanded-has : (demand : Option AddTree) (s : Sort) → is_demanded demand s ≡ true → IsDemanded demand s
demanded-has None s h = h
demanded-has (Some t) s h = h

has-demanded : (demand : Option AddTree) (s : Sort) → IsDemanded demand s → is_demanded demand s ≡ true
has-demanded None s h = h
has-demanded (Some t) s h = h

element-has : (sc : Scope) (demand : Option AddTree) (t : SubscriptsTree) (ns : List Node) (s : Sort) → typed_parts sc (forms_of (form_subscripts t)) ≡ Ok ns → is_resource_of sc demand (Some t) ns s ≡ true → IsElementOf sc demand t s
element-has sc demand t ns (array indices s) g h =
    let b = both-true (subscripts_fit sc indices ns) (list_all is_data ns && is_demanded demand s) h in
    let c = both-true (list_all is_data ns) (is_demanded demand s) b.1 in
    (map typed_of ns, all-sound (forms_of (form_subscripts t)) sc ns g, fit-has sc indices ns b.0, each-of-nodes ns c.0, demanded-has demand s c.1)
element-has sc demand t ns s g h = absurd (cc)

resource-has : (sc : Scope) (demand : Option AddTree) (subscripts : Option SubscriptsTree) (ns : List Node) (s : Sort) → subscript_nodes sc subscripts ≡ Ok ns → is_resource_of sc demand subscripts ns s ≡ true → IsResource sc demand subscripts s
resource-has sc demand None ns s g h = demanded-has demand s h
resource-has sc demand (Some t) ns s g h = element-has sc demand t ns s g h

thing-has : (sc : Scope) (t : RequiresTree) (ns : List Node) (thing : Thing) → is_resource sc t ns thing ≡ true → (s : Sort) × (thing ≡ resource s) × (is_resource_of sc t.demand t.subscripts ns s ≡ true)
thing-has sc t ns (resource s) h = (s, refl, h)
thing-has sc t ns thing h = absurd (cc)

has-element : (sc : Scope) (demand : Option AddTree) (t : SubscriptsTree) (s : Sort) → IsElementOf sc demand t s → (ns : List Node) × (typed_parts sc (forms_of (form_subscripts t)) ≡ Ok ns) × (is_resource_of sc demand (Some t) ns s ≡ true)
has-element sc demand t (array indices s) h =
    let k = all-complete (forms_of (form_subscripts t)) sc h.0 h.1 in (
      k.nodes,
      k.given,
      true-both (subscripts_fit sc indices k.nodes) (list_all is_data k.nodes && is_demanded demand s) (has-fit sc indices k.nodes (subst (SubscriptsFit sc indices) (sym k.are) h.2))
          (true-both (list_all is_data k.nodes) (is_demanded demand s) (of-each-nodes k.nodes (subst (Each IsData) (sym k.are) h.3)) (has-demanded demand s h.4)),
    )
has-element sc demand t s h = absurd h

has-resource : (sc : Scope) (demand : Option AddTree) (subscripts : Option SubscriptsTree) (s : Sort) → IsResource sc demand subscripts s → (ns : List Node) × (subscript_nodes sc subscripts ≡ Ok ns) × (is_resource_of sc demand subscripts ns s ≡ true)
has-resource sc demand None s h = ([], refl, has-demanded demand s h)
has-resource sc demand (Some t) s h = has-element sc demand t s h

-- ---- items of activities

pub precedes-sound : (at : ℕ) (f g : Form) (sc : Scope) (ks : List Sort) →
    and_then (and_then (typing sc f) part) (λ m. and_then (and_then (typing sc g) part) (λ n. and_then (unless (is_activity m.sort && is_activity n.sort) (Mismatch at)) (λ u. Ok (kinds m ++ kinds n)))) ≡ Ok ks → IsTyped sc (precedence f g)
precedes-sound at f g sc ks h =
    let w = went (and_then (typing sc f) part) _ ks h in
    let x = went (and_then (typing sc g) part) _ ks w.2 in
    let u = went (unless (is_activity w.0.sort && is_activity x.0.sort) (Mismatch at)) _ ks x.2 in
    let b = both-true (is_activity w.0.sort) (is_activity x.0.sort) (passed (is_activity w.0.sort && is_activity x.0.sort) (Mismatch at) (unit-ok _ u.0 u.1)) in
    (part-sound sc is_activity f w.0 w.1 b.0, part-sound sc is_activity g x.0 x.1 b.1)

pub precedes-complete : (at : ℕ) (f g : Form) (sc : Scope) → IsTyped sc (precedence f g) →
    (ks : List Sort) × (and_then (and_then (typing sc f) part) (λ m. and_then (and_then (typing sc g) part) (λ n. and_then (unless (is_activity m.sort && is_activity n.sort) (Mismatch at)) (λ u. Ok (kinds m ++ kinds n)))) ≡ Ok ks)
precedes-complete at f g sc h =
    let k = part-complete sc is_activity f h.0 in
    let l = part-complete sc is_activity g h.1 in
    let m = k.0 in
    let n = l.0 in (
      kinds m ++ kinds n,
      goes (and_then (typing sc f) part) (λ m. and_then (and_then (typing sc g) part) (λ n. and_then (unless (is_activity m.sort && is_activity n.sort) (Mismatch at)) (λ u. Ok (kinds m ++ kinds n)))) m k.1
          ∙ goes (and_then (typing sc g) part) (λ n. and_then (unless (is_activity m.sort && is_activity n.sort) (Mismatch at)) (λ u. Ok (kinds m ++ kinds n))) n l.1
          ∙ goes (unless (is_activity m.sort && is_activity n.sort) (Mismatch at)) (λ u. Ok (kinds m ++ kinds n)) tt (pass (is_activity m.sort && is_activity n.sort) (Mismatch at) (true-both (is_activity m.sort) (is_activity n.sort) k.2 l.2)),
    )

pub requires-sound : (t : RequiresTree) (sc : Scope) (ks : List Sort) → requires t sc ≡ Ok ks → IsTyped sc (requirement t)
requires-sound t sc ks h =
    let w = went (and_then (typing sc (form_post t.activity)) part) _ ks h in
    let d = went (maybe_number sc t.demand) _ ks w.2 in
    let y = went (known t.resource (lookup sc t.resource.text)) _ ks d.2 in
    let z = went (subscript_nodes sc t.subscripts) _ ks y.2 in
    let u = went (unless (is_activity w.0.sort && is_resource sc t z.0 y.0) (Mismatch t.at)) _ ks z.2 in
    let b = both-true (is_activity w.0.sort) (is_resource sc t z.0 y.0) (passed (is_activity w.0.sort && is_resource sc t z.0 y.0) (Mismatch t.at) (unit-ok _ u.0 u.1)) in
    let r = thing-has sc t z.0 y.0 b.1 in (
      r.0,
      part-sound sc is_activity (form_post t.activity) w.0 w.1 b.0,
      maybe-sound sc t.demand d.0 d.1,
      known-has t.resource (lookup sc t.resource.text) y.0 y.1 ∙ ap Some r.1,
      resource-has sc t.demand t.subscripts z.0 r.0 z.1 r.2,
    )

pub requires-complete : (t : RequiresTree) (sc : Scope) → IsTyped sc (requirement t) → (ks : List Sort) × (requires t sc ≡ Ok ks)
requires-complete t sc h =
    let k = part-complete sc is_activity (form_post t.activity) h.1 in
    let d = maybe-complete sc t.demand h.2 in
    let z = has-resource sc t.demand t.subscripts h.0 h.4 in
    let n = k.0 in
    let test = is_activity n.sort && is_resource sc t z.0 (resource h.0) in (
      kinds n ++ (d.0 ++ kinds_in z.0),
      goes (and_then (typing sc (form_post t.activity)) part) (λ n. and_then (maybe_number sc t.demand) (λ demand. and_then (known t.resource (lookup sc t.resource.text)) (λ thing. and_then (subscript_nodes sc t.subscripts) (λ ns. and_then (unless (is_activity n.sort && is_resource sc t ns thing) (Mismatch t.at)) (λ u. Ok (kinds n ++ (demand ++ kinds_in ns))))))) n k.1
          ∙ goes (maybe_number sc t.demand) (λ demand. and_then (known t.resource (lookup sc t.resource.text)) (λ thing. and_then (subscript_nodes sc t.subscripts) (λ ns. and_then (unless (is_activity n.sort && is_resource sc t ns thing) (Mismatch t.at)) (λ u. Ok (kinds n ++ (demand ++ kinds_in ns)))))) d.0 d.1
          ∙ goes (known t.resource (lookup sc t.resource.text)) (λ thing. and_then (subscript_nodes sc t.subscripts) (λ ns. and_then (unless (is_activity n.sort && is_resource sc t ns thing) (Mismatch t.at)) (λ u. Ok (kinds n ++ (d.0 ++ kinds_in ns))))) (resource h.0) (ap (known t.resource) h.3)
          ∙ goes (subscript_nodes sc t.subscripts) (λ ns. and_then (unless (is_activity n.sort && is_resource sc t ns (resource h.0)) (Mismatch t.at)) (λ u. Ok (kinds n ++ (d.0 ++ kinds_in ns)))) z.0 z.1
          ∙ goes (unless test (Mismatch t.at)) (λ u. Ok (kinds n ++ (d.0 ++ kinds_in z.0))) tt (pass test (Mismatch t.at) (true-both (is_activity n.sort) (is_resource sc t z.0 (resource h.0)) k.2 z.2)),
    )
