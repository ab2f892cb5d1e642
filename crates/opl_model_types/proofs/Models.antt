-- The types of a whole model, one part after the other.
use Rattle.std.proofs.Common.{◌≡◌, Bool, true, List, [], ◌∷◌, ◌++◌, map, subst, Ok, Err, refl, ap, ◌∙◌, sym, append_assoc}
use Rattle.opl_tree.specs.declared.declaration.DeclTree.{DeclTree}
use Rattle.opl_tree.specs.declared.model.ModelTree.{ModelTree}
use Rattle.opl_type_rules.specs.declared.fault.TypeFault.{TypeFault}
use Rattle.opl_type_rules.specs.declared.names.Entry.{Entry}
use Rattle.opl_type_rules.specs.declared.names.Names.{Names}
use Rattle.opl_type_rules.specs.declared.fault.TypeFault.TheVariants.{Unknown, Duplicate, Mismatch, NotData, OutOfMemory}
use Rattle.opl_type_rules.specs.Types.{Sort, sort}
use Rattle.opl_type_rules.specs.Scope.{Checked, and_then, Scope, empty_scope, declared}
use Rattle.opl_type_rules.specs.Expressions.{Opened}
use Rattle.opl_declaration_types.specs.Declarations.{all_decls}
use Rattle.opl_item_types.specs.Items.{Looked, instr, search}
use Rattle.opl_model_types.specs.Models.{model}
use Rattle.opl_type_rules.specs.Steps.{front, behind}
use Rattle.opl_type_rules.specs.Values.{Gives, scope_of, thing_of, with_entries}

-- ---- the search section

searching : (es : List Entry) (sc : Scope) → with_entries es (record sc { is_search = true }) ≡ record (with_entries es sc) { is_search = true }
unfolding declared
searching [] sc = refl
searching (e ∷ es) sc = searching es (declared e.name (thing_of e.thing) sc)

begin : Bool → Bool → Bool → Scope
begin is_search has_origin has_horizon = record { entries = []; is_search = is_search; has_origin = has_origin; has_horizon = has_horizon }

pub search-scope : (n m : Names) → m.entries ≡ n.entries → m.is_search ≡ true → m.has_origin ≡ n.has_origin → m.has_horizon ≡ n.has_horizon → scope_of m ≡ record (scope_of n) { is_search = true }
unfolding scope_of begin
search-scope n m these here origin horizon =
    ap (λ (es : List Entry). with_entries es (begin m.is_search m.has_origin m.has_horizon)) these
    ∙ ap (λ b. with_entries n.entries (begin b m.has_origin m.has_horizon)) here
    ∙ ap (λ b. with_entries n.entries (begin true b m.has_horizon)) origin
    ∙ ap (λ b. with_entries n.entries (begin true n.has_origin b)) horizon
    ∙ searching n.entries (begin n.is_search n.has_origin n.has_horizon)

-- ---- models

two : (ks : List Sort) (c d : Checked (List Sort)) → and_then c (λ m. and_then d (λ l. Ok (ks ++ (m ++ l)))) ≡ and_then (front ks c) (λ ms. front ms d)
two ks (Ok a) (Ok b) = ap (λ ms. Ok ms) (sym (append_assoc ks a b))
two ks (Ok a) (Err e) = refl
two ks (Err e) d = refl

steps : (c : Checked Opened) (f g : Looked) →
    and_then c (λ o. and_then (f o.scope) (λ m. and_then (g o.scope) (λ l. Ok (o.kinds ++ (m ++ l))))) ≡ and_then (behind [] c) (λ o. and_then (front o.kinds (f o.scope)) (λ ks. front ks (g o.scope)))
steps (Ok o) f g = two o.kinds (f o.scope) (g o.scope)
steps (Err e) f g = refl

model-steps : (t : ModelTree) →
    model t ≡ and_then (behind [] (all_decls 0 empty_scope t.decls)) (λ o. and_then (front o.kinds (instr t.instr o.scope)) (λ ks. front ks (search t.search o.scope)))
unfolding model
model-steps t = steps (all_decls 0 empty_scope t.decls) (instr t.instr) (search t.search)

begun : (ds es : List DeclTree) (ks : List Sort) (sc : Scope) → ds ≡ es → ks ≡ [] → sc ≡ empty_scope → behind ks (all_decls 0 sc ds) ≡ behind [] (all_decls 0 empty_scope es)
begun ds es ks sc these none empty =
    ap (λ ms. behind ms (all_decls 0 sc ds)) none ∙ ap (λ x. behind [] (all_decls 0 x ds)) empty ∙ ap (λ x. behind [] (all_decls 0 empty_scope x)) these

pub model-declared : (t : ModelTree) (e : TypeFault) → behind [] (all_decls 0 empty_scope t.decls) ≡ Err e → model t ≡ Err e
model-declared t e h = model-steps t ∙ ap (λ c. and_then c (λ o. and_then (front o.kinds (instr t.instr o.scope)) (λ ks. front ks (search t.search o.scope)))) h

-- where the first has a fault, the second has it
faulty : {A B C D : Type 0} (c : Checked A) (d : Checked C) (r : B → A) (s : D → C) (e : TypeFault) → ((f : TypeFault) → c ≡ Err f → d ≡ Err f) → Gives r c (Err e) → Gives s d (Err e)
faulty c d r s OutOfMemory h g = tt
faulty c d r s (Unknown at) h g = h (Unknown at) g
faulty c d r s (Duplicate at) h g = h (Duplicate at) g
faulty c d r s (Mismatch at) h g = h (Mismatch at) g
faulty c d r s (NotData at) h g = h (NotData at) g

model-instr : (t : ModelTree) (o : Opened) → behind [] (all_decls 0 empty_scope t.decls) ≡ Ok o →
    model t ≡ and_then (front o.kinds (instr t.instr o.scope)) (λ ks. front ks (search t.search o.scope))
model-instr t o h = model-steps t ∙ ap (λ c. and_then c (λ o. and_then (front o.kinds (instr t.instr o.scope)) (λ ks. front ks (search t.search o.scope)))) h

pub model-search : (t : ModelTree) (o : Opened) (ks : List Sort) → behind [] (all_decls 0 empty_scope t.decls) ≡ Ok o → front o.kinds (instr t.instr o.scope) ≡ Ok ks →
    model t ≡ front ks (search t.search o.scope)
model-search t o ks h g = model-instr t o h ∙ ap (λ c. and_then c (λ ks. front ks (search t.search o.scope))) g

pub model-fault : (t : ModelTree) (o : Opened) (e : TypeFault) → behind [] (all_decls 0 empty_scope t.decls) ≡ Ok o → front o.kinds (instr t.instr o.scope) ≡ Err e → model t ≡ Err e
model-fault t o e h g = model-instr t o h ∙ ap (λ c. and_then c (λ ks. front ks (search t.search o.scope))) g

-- a fault among the declarations, and one in the instruction
pub declared-faulty : (t : ModelTree) (ds : List DeclTree) (ks : List Sort) (sc : Scope) (e : TypeFault) → Gives {A = Opened} {B = Opened} (λ o. o) (behind ks (all_decls 0 sc ds)) (Err e) →
    ds ≡ t.decls → ks ≡ [] → sc ≡ empty_scope → Gives (map sort) (model t) (Err e)
declared-faulty t ds ks sc e h these none empty =
    faulty {A = Opened} {B = Opened} (behind [] (all_decls 0 empty_scope t.decls)) (model t) (λ o. o) (map sort) e (model-declared t)
    (subst (λ (c : Checked Opened). Gives {A = Opened} {B = Opened} (λ o. o) c (Err e)) (begun ds t.decls ks sc these none empty) h)

pub instr-faulty : (t : ModelTree) (ds : List DeclTree) (ks : List Sort) (sc : Scope) (o : Opened) (e : TypeFault) → behind ks (all_decls 0 sc ds) ≡ Ok o →
    Gives {A = List Sort} {B = List Sort} (λ ms. ms) (front o.kinds (instr t.instr o.scope)) (Err e) → ds ≡ t.decls → ks ≡ [] → sc ≡ empty_scope → Gives (map sort) (model t) (Err e)
instr-faulty t ds ks sc o e h g these none empty =
    faulty {A = List Sort} {B = List Sort} (front o.kinds (instr t.instr o.scope)) (model t) (λ ms. ms) (map sort) e (λ f i. model-fault t o f (sym (begun ds t.decls ks sc these none empty) ∙ h) i) g

pub ruleset models = (model-declared, model-fault, model-search)
