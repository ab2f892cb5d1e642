-- Each name in an expression that typing accepts has exactly one visible declaration.
use Rattle.std.proofs.Common.{◌≡◌, Bool, List, Ok, sym, subst}
use Rattle.std.specs.Prelude.{IsOkAnd}
use Rattle.std.specs.List.{flat_map}
use Rattle.opl_tree.specs.declared.expression.PatternTree.{PatternTree}
use Rattle.opl_type_rules.specs.Types.{Sort, is_set, is_truth}
use Rattle.opl_type_rules.specs.Scope.{Checked, and_then, Scope, all_fresh}
use Rattle.opl_type_rules.specs.Forms.{Form, Forms, Pairs, SetForm, Groups, Params}
use Rattle.opl_type_rules.specs.Forms.Form.{number, named, bracket, negative, arithmetic, absolute, related, member, connected, aggregate, cardinality, all_different, subscripted, field, tuple, listed, described, cells, keyed_cells, question}
use Rattle.opl_type_rules.specs.Forms.Forms.{no_forms, more_forms}
use Rattle.opl_type_rules.specs.Forms.Pairs.{no_pairs, more_pairs}
use Rattle.opl_type_rules.specs.Forms.SetForm.{whole, between}
use Rattle.opl_type_rules.specs.Forms.Groups.{no_groups, more_groups}
use Rattle.opl_type_rules.specs.Forms.Params.{all_of, those_of}
use Rattle.opl_type_rules.specs.Expressions.{Node, Need, Opened, Range, used, part, data_number, any_type, or_anything, pattern_names, bind_patterns, typing, typed_parts, typed_pairs, typed_set, open_groups, open_params, scope_within}
use Rattle.opl_type_rules.specs.Expressions.Need.{nothing, data_alone}
use Rattle.opl_model_types.specs.Laws.{IsDeclaredOnce, EachDeclared, AllDeclared, PairsDeclared, SetDeclared, GroupsDeclared, ParamsDeclared, TypedIsDeclared}
use Rattle.opl_model_types.proofs.Once.{Once, all_fresh-once, unit-ok, went, ok-and, declared_once, once_declared, names_are_declared}
use Rattle.opl_model_types.proofs.ParamsOnce.{groups-once, params-once, patterns-bind}

-- what typing has found of an expression that a place accepts
placed : (sc : Scope) (f : Form) (g : Node → Checked Node) (n : Node) → and_then (typing sc f) g ≡ Ok n → (m : Node) × (typing sc f ≡ Ok m)
placed sc f g n h = let w = went (typing sc f) g n h in (w.0, w.1)

-- the parameters of an aggregate and of a set that is described, with what stands behind them
within-opened : (sc : Scope) (p : Params) (o : Opened) (f : Form) (n : Node) → open_params data_alone sc p ≡ Ok o → typing (scope_within sc p (open_params data_alone sc p)) f ≡ Ok n → typing o.scope f ≡ Ok n
within-opened sc p o f n h g = subst (λ (c : Checked Opened). typing (scope_within sc p c) f ≡ Ok n) h g

inner-once : (sc : Scope) (ps : List PatternTree) (s : Sort) (inner : Scope) → IsDeclaredOnce sc → all_fresh sc (flat_map pattern_names ps) ≡ Ok tt → bind_patterns sc s ps ≡ Ok inner → IsDeclaredOnce inner
inner-once sc ps s inner once f h = declared_once inner (subst Once (sym (patterns-bind ps sc s inner h)) (all_fresh-once (flat_map pattern_names ps) sc f (once_declared sc once)))

mutual
  unfolding typing typed_parts typed_pairs typed_set open_groups open_params

  each : (f : Form) (sc : Scope) (n : Node) → IsDeclaredOnce sc → typing sc f ≡ Ok n → EachDeclared sc f
  each (number at) sc n once h = tt
  each (named name) sc n once h = (names_are_declared sc name n once h).declared
  each (bracket at f) sc n once h =
      let w = went (and_then (typing sc f) part) _ n h in let m = placed sc f part w.0 w.1 in each f sc m.0 once m.1
  each (negative at f) sc n once h =
      let w = went (and_then (typing sc f) part) _ n h in let m = placed sc f part w.0 w.1 in each f sc m.0 once m.1
  each (arithmetic at fs) sc n once h = let w = went (typed_parts sc fs) _ n h in parts_declared fs sc w.0 once w.1
  each (absolute at f) sc n once h =
      let w = went (and_then (typing sc f) part) _ n h in let m = placed sc f part w.0 w.1 in each f sc m.0 once m.1
  each (related at f relation g) sc n once h =
      let w = went (and_then (typing sc f) part) _ n h in
      let x = went (and_then (typing sc g) part) _ n w.2 in
      let l = placed sc f part w.0 w.1 in
      let r = placed sc g part x.0 x.1 in
      (each f sc l.0 once l.1, each g sc r.0 once r.1)
  each (member at f over) sc n once h =
      let w = went (and_then (typing sc f) part) _ n h in
      let x = went (typed_set nothing any_type sc over) _ n w.2 in
      let l = placed sc f part w.0 w.1 in
      (each f sc l.0 once l.1, set_declared over nothing any_type sc x.0 once x.1)
  each (connected at fs) sc n once h = let w = went (typed_parts sc fs) _ n h in parts_declared fs sc w.0 once w.1
  each (aggregate at p f) sc n once h =
      let w = went (open_params data_alone sc p) _ n h in
      let x = went (and_then (typing w.0.scope f) part) _ n w.2 in
      let l = placed w.0.scope f part x.0 x.1 in
      let inner : IsDeclaredOnce w.0.scope = declared_once w.0.scope (params-once data_alone sc p w.0 w.1 (once_declared sc once)) in (
        params_declared p data_alone sc w.0 once w.1,
        ok-and (open_params data_alone sc p) w.0 (λ o. EachDeclared o.scope f) w.1 (each f w.0.scope l.0 inner l.1),
      )
  each (cardinality at f) sc n once h =
      let w = went (and_then (typing sc f) part) _ n h in let m = placed sc f part w.0 w.1 in each f sc m.0 once m.1
  each (all_different at f) sc n once h =
      let w = went (and_then (typing sc f) part) _ n h in let m = placed sc f part w.0 w.1 in each f sc m.0 once m.1
  each (subscripted at f es) sc n once h =
      let w = went (and_then (typing sc f) part) _ n h in
      let x = went (typed_parts sc es) _ n w.2 in
      let l = placed sc f part w.0 w.1 in
      (each f sc l.0 once l.1, parts_declared es sc x.0 once x.1)
  each (field at f name) sc n once h =
      let w = went (and_then (typing sc f) part) _ n h in let m = placed sc f part w.0 w.1 in each f sc m.0 once m.1
  each (tuple at fs) sc n once h = let w = went (typed_parts sc fs) _ n h in parts_declared fs sc w.0 once w.1
  each (listed at fs) sc n once h = let w = went (typed_parts sc fs) _ n h in parts_declared fs sc w.0 once w.1
  each (described at f p) sc n once h =
      let w = went (and_then (typing (scope_within sc p (open_params data_alone sc p)) f) part) _ n h in
      let x = went (open_params data_alone sc p) _ n w.2 in
      let l = placed (scope_within sc p (open_params data_alone sc p)) f part w.0 w.1 in
      let inner : IsDeclaredOnce x.0.scope = declared_once x.0.scope (params-once data_alone sc p x.0 x.1 (once_declared sc once)) in
      let is : typing x.0.scope f ≡ Ok l.0 = within-opened sc p x.0 f l.0 x.1 l.1 in (
        params_declared p data_alone sc x.0 once x.1,
        ok-and (open_params data_alone sc p) x.0 (λ o. EachDeclared o.scope f) x.1 (each f x.0.scope l.0 inner is),
      )
  each (cells at fs) sc n once h = let w = went (typed_parts sc fs) _ n h in parts_declared fs sc w.0 once w.1
  each (keyed_cells at ps) sc n once h = let w = went (typed_pairs sc ps) _ n h in pairs ps sc w.0 once w.1
  each (question at op f) sc n once h =
      let w = went (and_then (typing sc f) part) _ n h in let m = placed sc f part w.0 w.1 in each f sc m.0 once m.1

  pub parts_declared : (fs : Forms) (sc : Scope) (ns : List Node) → IsDeclaredOnce sc → typed_parts sc fs ≡ Ok ns → AllDeclared sc fs
  parts_declared no_forms sc ns once h = tt
  parts_declared (more_forms f fs) sc ns once h =
      let w = went (and_then (typing sc f) part) _ ns h in
      let x = went (typed_parts sc fs) _ ns w.2 in
      let l = placed sc f part w.0 w.1 in
      (each f sc l.0 once l.1, parts_declared fs sc x.0 once x.1)

  pairs : (ps : Pairs) (sc : Scope) (ns : List Node) → IsDeclaredOnce sc → typed_pairs sc ps ≡ Ok ns → PairsDeclared sc ps
  pairs no_pairs sc ns once h = tt
  pairs (more_pairs key cell others) sc ns once h =
      let w = went (and_then (typing sc key) part) _ ns h in
      let x = went (and_then (typing sc cell) part) _ ns w.2 in
      let y = went (typed_pairs sc others) _ ns x.2 in
      let l = placed sc key part w.0 w.1 in
      let r = placed sc cell part x.0 x.1 in
      (each key sc l.0 once l.1, each cell sc r.0 once r.1, pairs others sc y.0 once y.1)

  pub set_declared : (over : SetForm) (need : Need) (takes : Sort → Bool) (sc : Scope) (range : Range) → IsDeclaredOnce sc → typed_set need takes sc over ≡ Ok range → SetDeclared sc over
  set_declared (whole f) need takes sc range once h =
      let w = went (and_then (typing sc f) (used need takes)) _ range h in let m = placed sc f (used need takes) w.0 w.1 in each f sc m.0 once m.1
  set_declared (between low high) need takes sc range once h =
      let w = went (and_then (typing sc low) data_number) _ range h in
      let x = went (and_then (typing sc high) data_number) _ range w.2 in
      let l = placed sc low data_number w.0 w.1 in
      let r = placed sc high data_number x.0 x.1 in
      (each low sc l.0 once l.1, each high sc r.0 once r.1)

  groups : (gs : Groups) (sc : Scope) (o : Opened) → IsDeclaredOnce sc → open_groups sc gs ≡ Ok o → GroupsDeclared sc gs
  groups no_groups sc o once h = tt
  groups (more_groups ps over others) sc o once h =
      let w = went (all_fresh sc (flat_map pattern_names ps)) _ o h in
      let x = went (typed_set data_alone is_set sc over) _ o w.2 in
      let y = went (bind_patterns sc (or_anything x.0.element) ps) _ o x.2 in
      let z = went (open_groups y.0 others) _ o y.2 in
      let inner = inner-once sc ps (or_anything x.0.element) y.0 once (unit-ok (all_fresh sc (flat_map pattern_names ps)) w.0 w.1) y.1 in (
        set_declared over data_alone is_set sc x.0 once x.1,
        ok-and (typed_set data_alone is_set sc over) x.0 (λ range. IsOkAnd (bind_patterns sc (or_anything range.element) ps) (λ there. GroupsDeclared there others)) x.1
            (ok-and (bind_patterns sc (or_anything x.0.element) ps) y.0 (λ there. GroupsDeclared there others) y.1 (groups others y.0 z.0 inner z.1)),
      )

  pub params_declared : (p : Params) (need : Need) (sc : Scope) (o : Opened) → IsDeclaredOnce sc → open_params need sc p ≡ Ok o → ParamsDeclared sc p
  params_declared (all_of gs) need sc o once h = groups gs sc o once h
  params_declared (those_of gs condition) need sc o once h =
      let w = went (open_groups sc gs) _ o h in
      let x = went (and_then (typing w.0.scope condition) (used need is_truth)) _ o w.2 in
      let l = placed w.0.scope condition (used need is_truth) x.0 x.1 in
      let inner : IsDeclaredOnce w.0.scope = declared_once w.0.scope (groups-once gs sc w.0 w.1 (once_declared sc once)) in (
        groups gs sc w.0 once w.1,
        ok-and (open_groups sc gs) w.0 (λ o. EachDeclared o.scope condition) w.1 (each condition w.0.scope l.0 inner l.1),
      )

pub typed_is_declared : TypedIsDeclared
typed_is_declared sc f n once h = each f sc n once h
