-- What the walk over each form takes and finds, where typing accepts the form.
use Rattle.std.proofs.Common.{◌≡◌, ℕ, Bool, true, false, List, [], ◌∷◌, ◌++◌, map, Option, None, Some, Ok, Err, refl, ap, sym, subst, ◌∙◌, append_assoc, append-nil}
use Rattle.std.specs.Option.{option_map}
use Rattle.opl_tree.specs.declared.declaration.DeclTree.{DeclTree}
use Rattle.opl_tree.specs.declared.expression.AggregateOp.{AggregateOp}
use Rattle.opl_tree.specs.declared.expression.CallOp.{CallOp}
use Rattle.opl_tree.specs.declared.expression.CallOp.TheVariants as calls
use Rattle.opl_tree.specs.declared.expression.NameTree.{NameTree}
use Rattle.opl_tree.specs.declared.expression.PatternTree.{PatternTree}
use Rattle.opl_tree.specs.declared.expression.QuestionOp.{QuestionOp}
use Rattle.opl_tree.specs.declared.expression.Relation.{Relation}
use Rattle.opl_term.specs.declared.term.FieldName.{FieldName}
use Rattle.opl_term.specs.declared.term.GroupTerm.{GroupTerm}
use Rattle.opl_term.specs.declared.term.SetTerm.{SetTerm}
use Rattle.opl_term.specs.declared.term.SetTerm.TheVariants as sets_of
use Rattle.opl_term.specs.declared.term.Term.{Term}
use Rattle.opl_term.specs.declared.term.Term.TheVariants as terms
use Rattle.opl_term.specs.Terms.{with_fields}
use Rattle.opl_type_rules.specs.declared.fault.TypeFault.{TypeFault}
use Rattle.opl_type_rules.specs.declared.fault.TypeFault.TheVariants.{Unknown, Mismatch, NotData}
use Rattle.opl_type_rules.specs.Types.{Sort, is_number, is_truth, is_set}
use Rattle.opl_type_rules.specs.Types.Sort.{array, structure, activity}
use Rattle.opl_type_rules.specs.Scope.{Checked, Scope, Thing, and_then, unless, field_sort, fields, lookup, all_fresh}
use Rattle.opl_type_rules.specs.Forms.{Form, Pair, SetForm, Group, Params, forms_of, pairs_of, groups_of, call}
use Rattle.opl_type_rules.specs.Forms.Form.{number, named, bracket, negative, arithmetic, related, member, connected, aggregate, all_different, subscripted, field, tuple, listed, described, cells, keyed_cells, question}
use Rattle.opl_type_rules.specs.Forms.Params.{all_of, those_of}
use Rattle.opl_type_rules.specs.Forms.SetForm.{whole, between}
use Rattle.opl_type_rules.specs.Expressions.{Node, Need, Range, Opened, kinds, kinds_in, settled, used, part, any_type, data_number, name_node, element_node, field_node, known_field, is_time, bind_patterns, or_anything, scope_within, typing, typed_parts, typed_pairs, typed_set, open_groups, open_params}
use Rattle.opl_type_rules.specs.Expressions.Need.{nothing, data_alone}
use Rattle.opl_fields.specs.declared.place.FieldPlace.{FieldPlace}
use Rattle.opl_fields.specs.Structs.{position}
use Rattle.opl_fields.specs.Walk.{State, Pass, one, each, if_written, in_turn, noted, note, walk, walk_set, walk_group}
use Rattle.opl_fields.specs.Fields.{record_of}
use Rattle.opl_fields.specs.Typed.{placed, field_of_record, field_of, scope_behind, scope_or, scope_bound, form_fields, parts_fields, pairs_fields, set_fields, groups_fields, params_fields}
use Rattle.opl_fields.specs.Laws.{known}
use Rattle.opl_fields.proofs.Walks.{walk-Named, walk-Bracket, walk-Negative, walk-Related, walk-Member, walk-Aggregate, walk-Call, walk-AllDifferent, walk-Question, walk-Element, walk-further, walk-Record, walk-Listed, walk-Described, walk-Array, walk-KeyedArray, walk_set-Whole, walk_set-Between}

-- ---- what a walk takes and finds

-- it takes these types, whatever follows them, and finds these fields
abbrev pub Takes : Pass → List Sort → List FieldPlace → Type 0
Takes g ks a = (found : List FieldPlace) (rest : List (Option ℕ)) → g (known found (map record_of ks ++ rest)) ≡ known (found ++ a) rest

pub records-both : (ks ms : List Sort) (rest : List (Option ℕ)) → map record_of (ks ++ ms) ++ rest ≡ map record_of ks ++ (map record_of ms ++ rest)
records-both [] ms rest = refl
records-both (k ∷ ks) ms rest = ap (λ rs. record_of k ∷ rs) (records-both ks ms rest)

pub takes-both : (g h : Pass) (ks ms : List Sort) (a b : List FieldPlace) → Takes g ks a → Takes h ms b → Takes (λ s. h (g s)) (ks ++ ms) (a ++ b)
takes-both g h ks ms a b p q found rest =
    ap (λ rs. h (g (known found rs))) (records-both ks ms rest)
    ∙ ap h (p found (map record_of ms ++ rest))
    ∙ q (found ++ a) rest
    ∙ ap (λ l. known l rest) (append_assoc found a b)

pub takes-none : Takes (λ s. s) [] []
takes-none found rest = ap (λ l. known l rest) (sym (append-nil found))

pub takes-end : (g : Pass) (ks : List Sort) (a : List FieldPlace) → Takes g ks a → Takes g (ks ++ []) a
takes-end g ks a p found rest = ap (λ l. g (known found (map record_of l ++ rest))) (append-nil ks) ∙ p found rest

pub takes-by : (g h : Pass) (ks : List Sort) (a : List FieldPlace) → ((s : State) → g s ≡ h s) → Takes h ks a → Takes g ks a
takes-by g h ks a e p found rest = e (known found (map record_of ks ++ rest)) ∙ p found rest

-- an expression takes its own type, and then its parts take theirs
pub takes-node : (g : Pass) (n : Node) (ks : List Sort) (a : List FieldPlace) → n.inner ≡ ks → Takes g ks a → Takes (λ s. g (one s)) (kinds n) a
takes-node g n ks a e p found rest = ap (λ l. g (known found (map record_of l ++ rest))) e ∙ p found rest

-- ---- what is found without a fault

pub went : {A B : Type 0} (c : Checked A) (f : A → Checked B) (b : B) → and_then c f ≡ Ok b → (a : A) × (c ≡ Ok a) × (f a ≡ Ok b)
went (Ok a) f b h = (a, refl, h)
went (Err e) f b h = absurd (cc)

pub unless-then : {A : Type 0} (b : Bool) (e : TypeFault) (c : Checked A) (a : A) → and_then (unless b e) (λ u. c) ≡ Ok a → c ≡ Ok a
unless-then true e c a h = h
unless-then false e c a h = absurd (cc)

-- a place leaves an expression as it is
pub used-is : (c : Checked Node) (need : Need) (takes : Sort → Bool) (n : Node) → and_then c (used need takes) ≡ Ok n → c ≡ Ok n
unfolding settled
used-is (Ok m) need takes n h =
    unless-then _ (Mismatch m.place) (Ok m) n (unless-then _ (NotData m.place) _ n h)
used-is (Err e) need takes n h = absurd (cc)

pub part-is : (c : Checked Node) (n : Node) → and_then c part ≡ Ok n → c ≡ Ok n
part-is c n h = used-is c nothing any_type n h

pub same : {A : Type 0} (m n : A) → ◌≡◌ {A = Checked A} (Ok m) (Ok n) → m ≡ n
same m n h = cc

inner-of : (m n : Node) → ◌≡◌ {A = Checked Node} (Ok m) (Ok n) → n.inner ≡ m.inner
inner-of m n h = ap (λ k. k.inner) (sym (same m n h))

name-inner : (name : NameTree) (o : Option Thing) (n : Node) → name_node name o ≡ Ok n → n.inner ≡ []
name-inner name None n h = absurd (cc)
name-inner name (Some thing) n h = ap (λ k. k.inner) (sym (same _ n h))

element-inner : (sc : Scope) (at : ℕ) (base : Node) (ns : List Node) (s : Sort) → (element_node sc at base ns s).inner ≡ kinds base ++ kinds_in ns
element-inner sc at base ns (array indices element) = refl
element-inner sc at base ns s = refl

known-inner : (at : ℕ) (base : Node) (name : NameTree) (o : Option Sort) (n : Node) → known_field at base name o ≡ Ok n → n.inner ≡ kinds base ++ []
known-inner at base name None n h = absurd (cc)
known-inner at base name (Some s) n h = ap (λ k. k.inner) (sym (same _ n h))

field-inner : (sc : Scope) (at : ℕ) (base : Node) (name : NameTree) (s : Sort) (n : Node) → field_node sc at base name s ≡ Ok n → n.inner ≡ kinds base ++ []
field-inner sc at base name activity n h = ap (λ k. k.inner) (sym (same _ n (unless-then (is_time name.text) (Unknown name.at) _ n h)))
field-inner sc at base name (structure k) n h = known-inner at base name (field_sort name.text (fields sc k)) n h
field-inner sc at base name s n h = ap (λ k. k.inner) (sym (same _ n h))

module _ (ds : List DeclTree) where
  -- where typing accepts the form, the walk takes the types that it lists
  abbrev pub Follows : Form → Pass → Type 0
  Follows f g = (sc : Scope) (n : Node) → typing sc f ≡ Ok n → Takes g (kinds n) (form_fields ds sc f)

  abbrev pub FollowEach : List Form → List Pass → Type 0
  FollowEach [] [] = Unit {0}
  FollowEach (f ∷ fs) (g ∷ gs) = Follows f g × FollowEach fs gs
  FollowEach fs gs = ⊥

  abbrev pub FollowsSet : SetForm → Pass → Type 0
  FollowsSet over g = (need : Need) (takes : Sort → Bool) (sc : Scope) (range : Range) → typed_set need takes sc over ≡ Ok range → Takes g (kinds_in range.nodes) (set_fields ds sc over)

  abbrev pub FollowGroups : List Group → List Pass → Type 0
  FollowGroups [] [] = Unit {0}
  FollowGroups (g ∷ gs) (w ∷ ws) = FollowsSet g.over w × FollowGroups gs ws
  FollowGroups gs ws = ⊥

  abbrev pub FollowsParams : Params → Pass → Type 0
  FollowsParams p g = (need : Need) (sc : Scope) (opened : Opened) → open_params need sc p ≡ Ok opened → Takes g opened.kinds (params_fields ds sc p)

  -- a key and its cell, and several
  pub record FollowsPair (key cell : Form) (k c : Pass) : Type 0 where
    pub key_follows : Follows key k
    pub cell_follows : Follows cell c

  abbrev pub FollowPairs : List Pair → List Pass → List Pass → Type 0
  FollowPairs [] [] [] = Unit {0}
  FollowPairs (p ∷ ps) (k ∷ ks) (c ∷ cs) = FollowsPair p.key p.cell k c × FollowPairs ps ks cs
  FollowPairs ps ks cs = ⊥

  -- ---- parts

  pub parts-follow : (fs : List Form) (gs : List Pass) → FollowEach fs gs → (sc : Scope) (ns : List Node) → typed_parts sc (forms_of fs) ≡ Ok ns → Takes (each gs) (kinds_in ns) (parts_fields ds sc (forms_of fs))
  unfolding typing typed_parts form_fields parts_fields
  parts-follow [] [] ps sc ns h = subst (λ ns. Takes (each []) (kinds_in ns) []) (same [] ns h) takes-none
  parts-follow [] (g ∷ gs) ps sc ns h = absurd ps
  parts-follow (f ∷ fs) [] ps sc ns h = absurd ps
  parts-follow (f ∷ fs) (g ∷ gs) ps sc ns h =
      let w = went (and_then (typing sc f) part) _ ns h in
      let x = went (typed_parts sc (forms_of fs)) _ ns w.2 in
      subst (λ ns. Takes (each (g ∷ gs)) (kinds_in ns) (form_fields ds sc f ++ parts_fields ds sc (forms_of fs))) (same _ ns x.2)
      (takes-both g (each gs) (kinds w.0) (kinds_in x.0) _ _ (ps.0 sc w.0 (part-is _ w.0 w.1)) (parts-follow fs gs ps.1 sc x.0 x.1))

  pub pairs-follow : (ps : List Pair) (ks cs : List Pass) → FollowPairs ps ks cs → (sc : Scope) (ns : List Node) → typed_pairs sc (pairs_of ps) ≡ Ok ns → Takes (in_turn ks cs) (kinds_in ns) (pairs_fields ds sc (pairs_of ps))
  unfolding typing typed_pairs form_fields pairs_fields
  pairs-follow [] [] [] q sc ns h = subst (λ ns. Takes (in_turn [] []) (kinds_in ns) []) (same [] ns h) takes-none
  pairs-follow [] [] (c ∷ cs) q sc ns h = absurd q
  pairs-follow [] (k ∷ ks) cs q sc ns h = absurd q
  pairs-follow (p ∷ ps) [] cs q sc ns h = absurd q
  pairs-follow (p ∷ ps) (k ∷ ks) [] q sc ns h = absurd q
  pairs-follow (p ∷ ps) (k ∷ ks) (c ∷ cs) q sc ns h =
      let w = went (and_then (typing sc p.key) part) _ ns h in
      let x = went (and_then (typing sc p.cell) part) _ ns w.2 in
      let y = went (typed_pairs sc (pairs_of ps)) _ ns x.2 in
      subst (λ ns. Takes (in_turn (k ∷ ks) (c ∷ cs)) (kinds_in ns) (form_fields ds sc p.key ++ (form_fields ds sc p.cell ++ pairs_fields ds sc (pairs_of ps)))) (same _ ns y.2)
      (takes-both k (λ s. in_turn ks cs (c s)) (kinds w.0) (kinds x.0 ++ kinds_in y.0) _ _ (q.0.key_follows sc w.0 (part-is _ w.0 w.1))
      (takes-both c (in_turn ks cs) (kinds x.0) (kinds_in y.0) _ _ (q.0.cell_follows sc x.0 (part-is _ x.0 x.1)) (pairs-follow ps ks cs q.1 sc y.0 y.1)))

  -- ---- sets and parameters

  pub set-Whole : (f : Form) (t : Term) → Follows f (walk ds t) → FollowsSet (whole f) (walk_set ds (sets_of.Whole t))
  unfolding typing typed_set form_fields set_fields
  set-Whole f t p need takes sc range h =
      let w = went (and_then (typing sc f) (used need takes)) _ range h in
      subst (λ r. Takes (walk_set ds (sets_of.Whole t)) (kinds_in r.nodes) (form_fields ds sc f)) (same _ range w.2)
      (takes-by (walk_set ds (sets_of.Whole t)) (walk ds t) (kinds w.0 ++ []) _ (walk_set-Whole ds t)
      (takes-end (walk ds t) (kinds w.0) _ (p sc w.0 (used-is _ need takes w.0 w.1))))

  pub set-Between : (f g : Form) (t u : Term) → Follows f (walk ds t) → Follows g (walk ds u) → FollowsSet (between f g) (walk_set ds (sets_of.Between t u))
  unfolding typing typed_set form_fields set_fields
  set-Between f g t u p q need takes sc range h =
      let w = went (and_then (typing sc f) data_number) _ range h in
      let x = went (and_then (typing sc g) data_number) _ range w.2 in
      subst (λ r. Takes (walk_set ds (sets_of.Between t u)) (kinds_in r.nodes) (form_fields ds sc f ++ form_fields ds sc g)) (same _ range x.2)
      (takes-by (walk_set ds (sets_of.Between t u)) (λ s. walk ds u (walk ds t s)) (kinds w.0 ++ (kinds x.0 ++ [])) _ (walk_set-Between ds t u)
      (takes-both (walk ds t) (walk ds u) (kinds w.0) (kinds x.0 ++ []) _ _ (p sc w.0 (used-is _ data_alone is_number w.0 w.1))
      (takes-end (walk ds u) (kinds x.0) _ (q sc x.0 (used-is _ data_alone is_number x.0 x.1)))))

  -- the scope that typing goes on in
  bound-is : (sc : Scope) (ps : List PatternTree) (c : Checked Range) (range : Range) (inner : Scope) → c ≡ Ok range → bind_patterns sc (or_anything range.element) ps ≡ Ok inner → scope_bound sc ps c ≡ inner
  bound-is sc ps c range inner h g = ap (scope_bound sc ps) h ∙ ap (scope_or sc) g

  pub groups-follow : (gs : List Group) (ws : List Pass) → FollowGroups gs ws → (sc : Scope) (opened : Opened) → open_groups sc (groups_of gs) ≡ Ok opened → Takes (each ws) opened.kinds (groups_fields ds sc (groups_of gs))
  unfolding typing open_groups form_fields groups_fields
  groups-follow [] [] ps sc opened h = subst (λ o. Takes (each []) o.kinds []) (same _ opened h) takes-none
  groups-follow [] (w ∷ ws) ps sc opened h = absurd ps
  groups-follow (g ∷ gs) [] ps sc opened h = absurd ps
  groups-follow (g ∷ gs) (w ∷ ws) ps sc opened h =
      let v = went (all_fresh sc _) _ opened h in
      let x = went (typed_set data_alone is_set sc g.over) _ opened v.2 in
      let y = went (bind_patterns sc (or_anything x.0.element) g.patterns) _ opened x.2 in
      let z = went (open_groups y.0 (groups_of gs)) _ opened y.2 in
      let a = set_fields ds sc g.over in
      subst (λ o. Takes (each (w ∷ ws)) o.kinds (a ++ groups_fields ds (scope_bound sc g.patterns (typed_set data_alone is_set sc g.over)) (groups_of gs))) (same _ opened z.2)
      (takes-both w (each ws) (kinds_in x.0.nodes) z.0.kinds a _ (ps.0 data_alone is_set sc x.0 x.1)
      (subst (λ inner. Takes (each ws) z.0.kinds (groups_fields ds inner (groups_of gs))) (sym (bound-is sc g.patterns _ x.0 y.0 x.1 y.1)) (groups-follow gs ws ps.1 y.0 z.0 z.1)))

  pub params-all : (gs : List Group) (ws : List Pass) → FollowGroups gs ws → FollowsParams (all_of (groups_of gs)) (λ s. if_written None (each ws s))
  unfolding typing open_params form_fields params_fields
  params-all gs ws ps need sc opened h = groups-follow gs ws ps sc opened h

  pub params-those : (gs : List Group) (ws : List Pass) (f : Form) (g : Pass) → FollowGroups gs ws → Follows f g → FollowsParams (those_of (groups_of gs) f) (λ s. if_written (Some g) (each ws s))
  unfolding typing open_params form_fields params_fields
  params-those gs ws f g ps p need sc opened h =
      let w = went (open_groups sc (groups_of gs)) _ opened h in
      let x = went (and_then (typing w.0.scope f) (used need is_truth)) _ opened w.2 in
      subst (λ o. Takes (λ s. g (each ws s)) o.kinds (groups_fields ds sc (groups_of gs) ++ form_fields ds (scope_behind sc (open_groups sc (groups_of gs))) f)) (same _ opened x.2)
      (takes-both (each ws) g w.0.kinds (kinds x.0) _ _ (groups-follow gs ws ps sc w.0 w.1)
      (subst (λ inner. Takes g (kinds x.0) (form_fields ds inner f)) (sym (ap (scope_behind sc) w.1)) (p w.0.scope x.0 (used-is _ need is_truth x.0 x.1))))

  -- ---- forms of one part, of two and of several

  of-one : (f : Form) (g : Pass) → Follows f g → (sc : Scope) (c : Node → Checked Node) (n : Node) → and_then (and_then (typing sc f) part) c ≡ Ok n →
      ((m k : Node) → c m ≡ Ok k → k.inner ≡ kinds m ++ []) → Takes (λ s. g (one s)) (kinds n) (form_fields ds sc f)
  of-one f g p sc c n h e =
      let w = went (and_then (typing sc f) part) c n h in
      takes-node g n (kinds w.0 ++ []) _ (e w.0 n w.2) (takes-end g (kinds w.0) _ (p sc w.0 (part-is _ w.0 w.1)))

  of-several : (fs : List Form) (gs : List Pass) → FollowEach fs gs → (sc : Scope) (c : List Node → Checked Node) (n : Node) → and_then (typed_parts sc (forms_of fs)) c ≡ Ok n →
      ((ms : List Node) (k : Node) → c ms ≡ Ok k → k.inner ≡ kinds_in ms) → Takes (λ s. each gs (one s)) (kinds n) (parts_fields ds sc (forms_of fs))
  of-several fs gs ps sc c n h e =
      let w = went (typed_parts sc (forms_of fs)) c n h in
      takes-node (each gs) n (kinds_in w.0) _ (e w.0 n w.2) (parts-follow fs gs ps sc w.0 w.1)

  pub follows-Number : (at : ℕ) (i : Term) → ((s : State) → walk ds i s ≡ one s) → Follows (number at) (walk ds i)
  unfolding typing form_fields
  follows-Number at i e sc n h = takes-by (walk ds i) one (kinds n) [] e (takes-node (λ s. s) n [] [] (inner-of _ n h) takes-none)

  pub follows-Named : (name : NameTree) (at : ℕ) (text : List ℕ) → Follows (named name) (walk ds (terms.Named at text))
  unfolding typing form_fields
  follows-Named name at text sc n h =
      takes-by (walk ds (terms.Named at text)) one (kinds n) [] (walk-Named ds at text) (takes-node (λ s. s) n [] [] (name-inner name (lookup sc name.text) n h) takes-none)

  pub follows-Bracket : (at : ℕ) (f : Form) (t : Term) → Follows f (walk ds t) → Follows (bracket at f) (walk ds (terms.Bracket at t))
  unfolding typing form_fields
  follows-Bracket at f t p sc n h =
      let w = went (and_then (typing sc f) part) _ n h in
      takes-by (walk ds (terms.Bracket at t)) (λ s. walk ds t (one s)) (kinds n) _ (walk-Bracket ds at t)
      (takes-node (walk ds t) n (kinds w.0) _ (inner-of _ n w.2) (p sc w.0 (part-is _ w.0 w.1)))

  pub follows-Negative : (at : ℕ) (f : Form) (t : Term) → Follows f (walk ds t) → Follows (negative at f) (walk ds (terms.Negative at t))
  unfolding typing form_fields
  follows-Negative at f t p sc n h =
      takes-by (walk ds (terms.Negative at t)) (λ s. walk ds t (one s)) (kinds n) _ (walk-Negative ds at t) (of-one f (walk ds t) p sc _ n h (λ m k e. inner-of _ k e))

  pub follows-Call : (op : CallOp) (at : ℕ) (f : Form) (t : Term) → Follows f (walk ds t) → Follows (call op at f) (walk ds (terms.Call at op t))
  unfolding typing form_fields
  follows-Call calls.Absolute at f t p sc n h =
      takes-by (walk ds (terms.Call at calls.Absolute t)) (λ s. walk ds t (one s)) (kinds n) _ (walk-Call ds at calls.Absolute t) (of-one f (walk ds t) p sc _ n h (λ m k e. inner-of _ k e))
  follows-Call calls.Cardinality at f t p sc n h =
      takes-by (walk ds (terms.Call at calls.Cardinality t)) (λ s. walk ds t (one s)) (kinds n) _ (walk-Call ds at calls.Cardinality t) (of-one f (walk ds t) p sc _ n h (λ m k e. inner-of _ k e))

  pub follows-AllDifferent : (at : ℕ) (f : Form) (t : Term) → Follows f (walk ds t) → Follows (all_different at f) (walk ds (terms.AllDifferent at t))
  unfolding typing form_fields
  follows-AllDifferent at f t p sc n h =
      takes-by (walk ds (terms.AllDifferent at t)) (λ s. walk ds t (one s)) (kinds n) _ (walk-AllDifferent ds at t) (of-one f (walk ds t) p sc _ n h (λ m k e. inner-of _ k e))

  pub follows-Question : (at : ℕ) (op : QuestionOp) (f : Form) (t : Term) → Follows f (walk ds t) → Follows (question at op f) (walk ds (terms.Question at op t))
  unfolding typing form_fields
  follows-Question at op f t p sc n h =
      takes-by (walk ds (terms.Question at op t)) (λ s. walk ds t (one s)) (kinds n) _ (walk-Question ds at op t) (of-one f (walk ds t) p sc _ n h (λ m k e. inner-of _ k e))

  pub follows-Related : (at : ℕ) (f g : Form) (relation : Relation) (t u : Term) → Follows f (walk ds t) → Follows g (walk ds u) → Follows (related at f relation g) (walk ds (terms.Related at t relation u))
  unfolding typing form_fields
  follows-Related at f g relation t u p q sc n h =
      let w = went (and_then (typing sc f) part) _ n h in
      let x = went (and_then (typing sc g) part) _ n w.2 in
      takes-by (walk ds (terms.Related at t relation u)) (λ s. walk ds u (walk ds t (one s))) (kinds n) _ (walk-Related ds at t relation u)
      (takes-node (λ s. walk ds u (walk ds t s)) n (kinds w.0 ++ (kinds x.0 ++ [])) _ (inner-of _ n x.2)
      (takes-both (walk ds t) (walk ds u) (kinds w.0) (kinds x.0 ++ []) _ _ (p sc w.0 (part-is _ w.0 w.1)) (takes-end (walk ds u) (kinds x.0) _ (q sc x.0 (part-is _ x.0 x.1)))))

  pub follows-Member : (at : ℕ) (f : Form) (over : SetForm) (t : Term) (u : SetTerm) → Follows f (walk ds t) → FollowsSet over (walk_set ds u) → Follows (member at f over) (walk ds (terms.Member at t u))
  unfolding typing typed_set form_fields
  follows-Member at f over t u p q sc n h =
      let w = went (and_then (typing sc f) part) _ n h in
      let x = went (typed_set nothing any_type sc over) _ n w.2 in
      takes-by (walk ds (terms.Member at t u)) (λ s. walk_set ds u (walk ds t (one s))) (kinds n) _ (walk-Member ds at t u)
      (takes-node (λ s. walk_set ds u (walk ds t s)) n (kinds w.0 ++ kinds_in x.0.nodes) _ (inner-of _ n x.2)
      (takes-both (walk ds t) (walk_set ds u) (kinds w.0) (kinds_in x.0.nodes) _ _ (p sc w.0 (part-is _ w.0 w.1)) (q nothing any_type sc x.0 x.1)))

  -- a chain of signs, of any kind
  pub follows-Arithmetic : (at : ℕ) (fs : List Form) (t : Term) (gs : List Pass) → ((s : State) → walk ds t s ≡ each gs (one s)) → FollowEach fs gs → Follows (arithmetic at (forms_of fs)) (walk ds t)
  unfolding typing typed_parts form_fields
  follows-Arithmetic at fs t gs e ps sc n h =
      takes-by (walk ds t) (λ s. each gs (one s)) (kinds n) _ e (of-several fs gs ps sc _ n h (λ ms k e. inner-of _ k e))

  pub follows-Connected : (at : ℕ) (fs : List Form) (t : Term) (gs : List Pass) → ((s : State) → walk ds t s ≡ each gs (one s)) → FollowEach fs gs → Follows (connected at (forms_of fs)) (walk ds t)
  unfolding typing typed_parts form_fields
  follows-Connected at fs t gs e ps sc n h =
      takes-by (walk ds t) (λ s. each gs (one s)) (kinds n) _ e (of-several fs gs ps sc _ n h (λ ms k e. inner-of _ k e))

  pub follows-Record : (at : ℕ) (fs : List Form) (ts : List Term) → FollowEach fs (map (walk ds) ts) → Follows (tuple at (forms_of fs)) (walk ds (terms.Record at ts))
  unfolding typing typed_parts form_fields
  follows-Record at fs ts ps sc n h =
      takes-by (walk ds (terms.Record at ts)) (λ s. each (map (walk ds) ts) (one s)) (kinds n) _ (walk-Record ds at ts) (of-several fs _ ps sc _ n h (λ ms k e. inner-of _ k e))

  pub follows-Listed : (at : ℕ) (fs : List Form) (ts : List Term) → FollowEach fs (map (walk ds) ts) → Follows (listed at (forms_of fs)) (walk ds (terms.Listed at ts))
  unfolding typing typed_parts form_fields
  follows-Listed at fs ts ps sc n h =
      takes-by (walk ds (terms.Listed at ts)) (λ s. each (map (walk ds) ts) (one s)) (kinds n) _ (walk-Listed ds at ts) (of-several fs _ ps sc _ n h (λ ms k e. inner-of _ k e))

  pub follows-Array : (at : ℕ) (fs : List Form) (ts : List Term) → FollowEach fs (map (walk ds) ts) → Follows (cells at (forms_of fs)) (walk ds (terms.Array at ts))
  unfolding typing typed_parts form_fields
  follows-Array at fs ts ps sc n h =
      takes-by (walk ds (terms.Array at ts)) (λ s. each (map (walk ds) ts) (one s)) (kinds n) _ (walk-Array ds at ts) (of-several fs _ ps sc _ n h (λ ms k e. inner-of _ k e))

  pub follows-KeyedArray : (at : ℕ) (fs : List Pair) (ks cs : List Term) → FollowPairs fs (map (walk ds) ks) (map (walk ds) cs) → Follows (keyed_cells at (pairs_of fs)) (walk ds (terms.KeyedArray at ks cs))
  unfolding typing typed_pairs form_fields
  follows-KeyedArray at fs ks cs ps sc n h =
      let w = went (typed_pairs sc (pairs_of fs)) _ n h in
      takes-by (walk ds (terms.KeyedArray at ks cs)) (λ s. in_turn (map (walk ds) ks) (map (walk ds) cs) (one s)) (kinds n) _ (walk-KeyedArray ds at ks cs)
      (takes-node (in_turn (map (walk ds) ks) (map (walk ds) cs)) n (kinds_in w.0) _ (inner-of _ n w.2) (pairs-follow fs _ _ ps sc w.0 w.1))

  -- ---- with parameters

  within-is : (sc : Scope) (p : Params) (c : Checked Opened) (opened : Opened) → c ≡ Ok opened → scope_within sc p c ≡ opened.scope
  within-is sc p c opened h = ap (scope_within sc p) h

  pub follows-Aggregate : (at : ℕ) (op : AggregateOp) (p : Params) (f : Form) (gs : List GroupTerm) (c : Option Term) (t : Term) →
      FollowsParams p (λ s. if_written (option_map (walk ds) c) (each (map (walk_group ds) gs) s)) → Follows f (walk ds t) → Follows (aggregate at p f) (walk ds (terms.Aggregate at op gs c t))
  unfolding typing open_params form_fields
  follows-Aggregate at op p f gs c t ps q sc n h =
      let w = went (open_params data_alone sc p) _ n h in
      let x = went (and_then (typing w.0.scope f) part) _ n w.2 in
      let g : Pass = λ s. if_written (option_map (walk ds) c) (each (map (walk_group ds) gs) s) in
      takes-by (walk ds (terms.Aggregate at op gs c t)) (λ s. walk ds t (g (one s))) (kinds n) _ (walk-Aggregate ds at op gs c t)
      (takes-node (λ s. walk ds t (g s)) n (w.0.kinds ++ kinds x.0) _ (inner-of _ n x.2)
      (takes-both g (walk ds t) w.0.kinds (kinds x.0) _ _ (ps data_alone sc w.0 w.1)
      (subst (λ inner. Takes (walk ds t) (kinds x.0) (form_fields ds inner f)) (sym (ap (scope_behind sc) w.1)) (q w.0.scope x.0 (part-is _ x.0 x.1)))))

  pub follows-Described : (at : ℕ) (f : Form) (p : Params) (t : Term) (gs : List GroupTerm) (c : Option Term) →
      Follows f (walk ds t) → FollowsParams p (λ s. if_written (option_map (walk ds) c) (each (map (walk_group ds) gs) s)) → Follows (described at f p) (walk ds (terms.Described at t gs c))
  unfolding typing open_params form_fields
  follows-Described at f p t gs c q ps sc n h =
      let w = went (and_then (typing (scope_within sc p (open_params data_alone sc p)) f) part) _ n h in
      let x = went (open_params data_alone sc p) _ n w.2 in
      let g : Pass = λ s. if_written (option_map (walk ds) c) (each (map (walk_group ds) gs) s) in
      let is : scope_within sc p (open_params data_alone sc p) ≡ scope_behind sc (open_params data_alone sc p) = within-is sc p _ x.0 x.1 ∙ sym (ap (scope_behind sc) x.1) in
      takes-by (walk ds (terms.Described at t gs c)) (λ s. g (walk ds t (one s))) (kinds n) _ (walk-Described ds at t gs c)
      (takes-node (λ s. g (walk ds t s)) n (kinds w.0 ++ x.0.kinds) _ (inner-of _ n x.2)
      (takes-both (walk ds t) g (kinds w.0) x.0.kinds _ _
      (subst (λ inner. Takes (walk ds t) (kinds w.0) (form_fields ds inner f)) is (q (scope_within sc p (open_params data_alone sc p)) w.0 (part-is _ w.0 w.1)))
      (ps data_alone sc x.0 x.1)))

  -- ---- subscripts and fields

  pub follows-Element : (at : ℕ) (f : Form) (fs : List Form) (t : Term) (ts : List Term) → Follows f (walk ds t) → FollowEach fs (map (walk ds) ts) → Follows (subscripted at f (forms_of fs)) (walk ds (terms.Element at t ts))
  unfolding typing typed_parts form_fields
  follows-Element at f fs t ts p ps sc n h =
      let w = went (and_then (typing sc f) part) _ n h in
      let x = went (typed_parts sc (forms_of fs)) _ n w.2 in
      takes-by (walk ds (terms.Element at t ts)) (λ s. each (map (walk ds) ts) (walk ds t (one s))) (kinds n) _ (walk-Element ds at t ts)
      (takes-node (λ s. each (map (walk ds) ts) (walk ds t s)) n (kinds w.0 ++ kinds_in x.0) _ (inner-of _ n x.2 ∙ element-inner sc at w.0 x.0 w.0.sort)
      (takes-both (walk ds t) (each (map (walk ds) ts)) (kinds w.0) (kinds_in x.0) _ _ (p sc w.0 (part-is _ w.0 w.1)) (parts-follow fs _ ps sc x.0 x.1)))

  noted-is : (place : ℕ) (o : Option ℕ) (found : List FieldPlace) (rest : List (Option ℕ)) → noted place o (known found rest) ≡ known (found ++ placed place o) rest
  noted-is place None found rest = ap (λ l. known l rest) (sym (append-nil found))
  noted-is place (Some p) found rest = refl

  note-is : (name : NameTree) (o : Option ℕ) (found : List FieldPlace) (rest : List (Option ℕ)) → note ds name.at name.text o (known found rest) ≡ known (found ++ field_of_record ds name o) rest
  note-is name None found rest = ap (λ l. known l rest) (sym (append-nil found))
  note-is name (Some k) found rest = noted-is name.at (position ds k name.text) found rest

  pub follows-Field : (at : ℕ) (f : Form) (name : NameTree) (t : Term) (names : List FieldName) → Follows f (walk ds (with_fields at t names)) →
      Follows (field at f name) (walk ds (with_fields at t (names ++ record { at = name.at; text = name.text } ∷ [])))
  unfolding typing form_fields
  follows-Field at f name t names p sc n h found rest =
      let w = went (and_then (typing sc f) part) _ n h in
      let a = form_fields ds sc f in
      let m = w.0 in
      let r : Option ℕ = record_of m.sort in
      ap (λ l. walk ds (with_fields at t (names ++ record { at = name.at; text = name.text } ∷ [])) (known found (record_of n.sort ∷ (map record_of l ++ rest)))) (field-inner sc at m name m.sort n w.2)
      ∙ walk-further ds at t names (record { at = name.at; text = name.text }) (known found (record_of n.sort ∷ (map record_of (kinds m ++ []) ++ rest)))
      ∙ ap (note ds name.at name.text r) (takes-end (walk ds (with_fields at t names)) (kinds m) a (p sc m (part-is _ m w.1)) found rest)
      ∙ note-is name r (found ++ a) rest
      ∙ ap (λ l. known l rest) (append_assoc found a (field_of_record ds name r))
      ∙ ap (λ c. known (found ++ (a ++ field_of ds name c)) rest) (sym (part-is _ m w.1))
