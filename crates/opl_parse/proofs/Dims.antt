-- Sets that are just a name, dimensions, types and fields.
use Rattle.std.proofs.Common.{◌≡◌, ℕ, true, false, cond, ◌⊎◌, inl, inr, List, [], ◌∷◌, ◌++◌, map, Option, Some, None, Ok, refl, sym, ap, ◌∙◌, subst, arith, append_assoc, append-nil}
use Rattle.std.specs.Option.{option_map}
use Rattle.opl_token.specs.declared.sign.Sign.TheVariants as signs
use Rattle.opl_token.specs.declared.token.Kind.{Kind}
use Rattle.opl_tree.specs.declared.declaration.TypeTree.{TypeTree}
use Rattle.opl_tree.specs.declared.declaration.DimTree.{DimTree}
use Rattle.opl_tree.specs.declared.declaration.FieldTree.{FieldTree}
use Rattle.opl_tree.specs.declared.expression.NameTree.{NameTree}
use Rattle.opl_tree.specs.declared.expression.AddTree.{AddTree}
use Rattle.opl_tree.specs.declared.expression.PostTree.{PostTree}
use Rattle.opl_tree.specs.declared.expression.SuffixTree.{SuffixTree}
use Rattle.opl_tree.specs.declared.expression.PrimTree.{PrimTree}
use Rattle.opl_tree.specs.declared.expression.SetTree.{SetTree}
use Rattle.opl_tree.specs.declared.expression.PrimTree.TheVariants as prims
use Rattle.opl_tree.specs.declared.declaration.TypeTree.TheVariants as types
use Rattle.opl_tree.specs.declared.keyword.Keyword.TheVariants as words
use Rattle.opl_tree.specs.declared.expression.CompareTree.TheViews.{out-PostTree, roll-PostTree, out-roll-PostTree, out-SetTree, roll-SetTree, out-roll-SetTree, out-PrimTree, roll-PrimTree, roll-out-PrimTree, out-roll-PrimTree}
use Rattle.opl_tree.specs.declared.expression.CompareTree.TheOpen.{PrimTree-F}
use Rattle.opl_tree.specs.declared.declaration.TypeTree.TheViews.{out-TypeTree, roll-TypeTree, roll-out-TypeTree}
use Rattle.opl_tree.specs.declared.declaration.TypeTree.TheOpen.{TypeTree-F}
use Rattle.opl_tree.specs.Marks.{Mark, joined, marks_name, marks_add, marks_post, marks_suffix, marks_prim, marks_set, marks_type, marks_dim, marks_field}
use Rattle.opl_tree.specs.Marks as mk
use Rattle.opl_tree.proofs.Marks.{marks_name-is, marks_prim-Named, marks_post-of, marks_post-is, marks_set-of, marks_set-is, marks_type-Int, marks_type-Named, marks_type-Set, marks_dim-is, marks_field-is}
use Rattle.opl_grammar.specs.Input.{Input, Outcome, Parser, kind, and_then, pure, sign, word, sees_sign, sees_word, is_sign, is_word}
use Rattle.opl_grammar.specs.Input.{place as place_at}
use Rattle.opl_grammar.specs.Tables.{starts_add, type_begins, starts_type}
use Rattle.opl_grammar.specs.Just.{alone, without, OnePrim, post_of_add, name_at_prim, name_of_prim, name_of_post, name_of_found, name_of}
use Rattle.opl_grammar.specs.Rules as g
use Rattle.opl_grammar.specs.Rules.{Rules}
use Rattle.opl_parse.proofs.Follow.{Ends, no_word, sign_ends, word_ends}
use Rattle.opl_reader_laws.proofs.Forms.{placed, placed_shape, placed_law, either, by_side, either_shape, either_law, mapped, Made, plain_law}
use Rattle.opl_reader_laws.proofs.Led.{each_law}
use Rattle.opl_reader_laws.proofs.Opened.{opened, opened_shape, opened_law}
use Rattle.opl_reader_laws.proofs.Many.{many_law}
use Rattle.opl_reader_laws.proofs.Looked.{by_view, look_at, looked, looked_shape, Narrows, looked_law}
use Rattle.opl_reader_laws.proofs.Places.{places, Within, within_place}
use Rattle.opl_parse.proofs.Narrow.{wide_mul_is, add_narrow, wide_add, add_back, wide_add_is}
use Rattle.opl_reader_laws.proofs.Options.{then_same}
use Rattle.opl_reader_laws.proofs.Outcomes.{and_then_assoc, steps}
use Rattle.opl_reader_laws.proofs.Phrases.{Shape, Law, Any, pair, pair_shape, pair_law}
use Rattle.opl_parse.proofs.Prims.{name_law}
use Rattle.opl_parse.proofs.Shapes.{First, name_shape, set_shape, type_shape, field_shape, fields_shape, dim_shape, dims_shape, RulesLaw}
use Rattle.opl_parse.proofs.Sums.{set_law}
use Rattle.opl_reader_laws.proofs.Takes.{Takes, Written, written_behind}
use Rattle.opl_reader_laws.proofs.Tokens.{from_sign, from_word, from_name, sign_table, sign_first, sign_reads, sign_shape, word_shape, sign_law, word_law}
use Rattle.opl_tree.specs.Marks.{Mark}
use Rattle.opl_grammar.specs.Just.{OnePrim}

none_some : {A : Type 0} {a : A} → ◌≡◌ {A = Option A} None (Some a) → ⊥
none_some h = cc

some_same : {A : Type 0} {a b : A} → ◌≡◌ {A = Option A} (Some a) (Some b) → a ≡ b
some_same h = cc

within_trans : {ms ns os : List Mark} → Within ms ns → Within ns os → Within ms os
within_trans {ms} {ns} {os} v w = by_places v.at ms v.is where
  by_places : (xs : List ℕ) (ms : List Mark) → ms ≡ places xs ns → Within ms os
  by_places [] ms e = record { at = w.at; is = e ∙ w.is }
  by_places (x ∷ xs) ms e = subst (λ y. Within y os) (sym e) (within_place x (by_places xs (places xs ns) refl))

-- ---- sets that are just a name

prim_named : (t : PrimTree) (n : NameTree) → name_of_prim t ≡ Some n → Within (marks_prim t) (marks_name n)
unfolding name_of_prim
prim_named t n = subst (λ x. name_at_prim (out-PrimTree t) ≡ Some n → Within (marks_prim x) (marks_name n)) (roll-out-PrimTree t) (by_layer (out-PrimTree t)) where
  by_layer : (x : OnePrim) → name_at_prim x ≡ Some n → Within (marks_prim (roll-PrimTree x)) (marks_name n)
  by_layer (PrimTree-F.Named u) h =
      let e = some_same h in
      subst (λ x. Within (marks_prim x) (marks_name n)) (sym (prims.rolls-Named u)) (record { at = []; is = marks_prim-Named u ∙ ap marks_name e })
  by_layer (PrimTree-F.Number at v) h = absurd (none_some h)
  by_layer (PrimTree-F.Bracket at u) h = absurd (none_some h)
  by_layer (PrimTree-F.Record at u us) h = absurd (none_some h)
  by_layer (PrimTree-F.Listed at us) h = absurd (none_some h)
  by_layer (PrimTree-F.Described at u v) h = absurd (none_some h)
  by_layer (PrimTree-F.Array at us) h = absurd (none_some h)
  by_layer (PrimTree-F.KeyedArray at us) h = absurd (none_some h)
  by_layer (PrimTree-F.Call at op u) h = absurd (none_some h)
  by_layer (PrimTree-F.AllDifferent at u) h = absurd (none_some h)
  by_layer (PrimTree-F.Question at op u) h = absurd (none_some h)

post_named : (t : PostTree) (n : NameTree) → name_of_post t ≡ Some n → Within (marks_post t) (marks_name n)
unfolding name_of_post
post_named t n h = by_rest (out-PostTree t).suffixes refl h where
  by_rest : (ts : List SuffixTree) → (out-PostTree t).suffixes ≡ ts → alone ts (name_of_prim (out-PostTree t).prim) ≡ Some n → Within (marks_post t) (marks_name n)
  by_rest [] e k =
      let c = prim_named (out-PostTree t).prim n k in
      let ms : marks_post t ≡ mk.place (out-PostTree t).at ∷ marks_prim (out-PostTree t).prim = marks_post-is t ∙ (ap (λ ts. mk.place (out-PostTree t).at ∷ (marks_prim (out-PostTree t).prim ++ mk.joined (map marks_suffix ts))) e ∙ ap (λ ms. mk.place (out-PostTree t).at ∷ ms) (append-nil (marks_prim (out-PostTree t).prim))) in
      subst (λ ms. Within ms (marks_name n)) (sym ms) (within_place (out-PostTree t).at c)
  by_rest (x ∷ ts) e k = absurd (none_some k)

set_named : (t : SetTree) (n : NameTree) → name_of t ≡ Some n → Within (marks_set t) (marks_name n)
unfolding name_of
set_named t n h = by_high (out-SetTree t).high refl h where
  by_post : (out-SetTree t).high ≡ None → (o : Option PostTree) → post_of_add (out-SetTree t).low ≡ o → name_of_found o ≡ Some n → Within (marks_set t) (marks_name n)
  by_post e None k l = absurd (none_some l)
  by_post e (Some p) k l =
      let c = add_narrow (out-SetTree t).low p k in
      let q = post_named p n l in
      let ms : marks_set t ≡ mk.place (out-SetTree t).at ∷ marks_add (out-SetTree t).low = marks_set-is t ∙ (ap (λ o. mk.place (out-SetTree t).at ∷ (marks_add (out-SetTree t).low ++ mk.after (mk.sign signs.Range) (option_map marks_add o))) e ∙ ap (λ ms. mk.place (out-SetTree t).at ∷ ms) (append-nil (marks_add (out-SetTree t).low))) in
      subst (λ ms. Within ms (marks_name n)) (sym ms) (within_place (out-SetTree t).at (within_trans c q))

  by_high : (o : Option AddTree) → (out-SetTree t).high ≡ o → without o (name_of_found (post_of_add (out-SetTree t).low)) ≡ Some n → Within (marks_set t) (marks_name n)
  by_high None e k = by_post e (post_of_add (out-SetTree t).low) refl k
  by_high (Some x) e k = absurd (none_some k)

-- the set that a name is
abbrev named_post : ℕ → NameTree → PostTree
named_post at n = roll-PostTree (record { at = at; prim = prims.Named n; suffixes = [] })

abbrev pub named_set : ℕ → NameTree → SetTree
named_set at n = roll-SetTree (record { at = at; low = wide_add at (named_post at n); high = None })

name_of_named_prim : (n : NameTree) → name_of_prim (prims.Named n) ≡ Some n
unfolding name_of_prim
name_of_named_prim n = ap name_of_prim (sym (prims.rolls-Named n)) ∙ ap name_at_prim (out-roll-PrimTree (PrimTree-F.Named n))

name_of_named_post : (at : ℕ) (n : NameTree) → name_of_post (named_post at n) ≡ Some n
unfolding name_of_post
name_of_named_post at n = ap (λ v. alone v.suffixes (name_of_prim v.prim)) (out-roll-PostTree (record { at = at; prim = prims.Named n; suffixes = [] })) ∙ name_of_named_prim n

named_back : (at : ℕ) (n : NameTree) → name_of (named_set at n) ≡ Some n
unfolding name_of
named_back at n = ap (λ v. without v.high (name_of_found (post_of_add v.low))) (out-roll-SetTree (record { at = at; low = wide_add at (named_post at n); high = None }))
    ∙ (ap name_of_found (add_back at (named_post at n)) ∙ name_of_named_post at n)

named_post_is : (at : ℕ) (n : NameTree) → marks_post (named_post at n) ≡ mk.place at ∷ marks_name n
named_post_is at n = marks_post-of at (prims.Named n) [] ∙ ap (λ ms. mk.place at ∷ ms) (append-nil (marks_prim (prims.Named n)) ∙ marks_prim-Named n)

named_set_is : (at : ℕ) (n : NameTree) → marks_set (named_set at n) ≡ mk.place at ∷ mk.place at ∷ mk.place at ∷ mk.place at ∷ marks_name n
named_set_is at n = marks_set-of at (wide_add at (named_post at n)) None ∙ ap (λ ms. mk.place at ∷ ms) (append-nil (marks_add (wide_add at (named_post at n))) ∙ (wide_add_is at (named_post at n) ∙ ap (λ ms. mk.place at ∷ ms) (wide_mul_is at (named_post at n) ∙ ap (λ ms. mk.place at ∷ ms) (named_post_is at n))))

pub name_narrows : Narrows set_shape name_of marks_name
name_narrows = record {
  known = λ a b h. h;
  within = set_named;
  wide = named_set;
  back = named_back;
  there = λ i c j h. subst (λ ms. Takes ms i j) (sym (named_set_is (place_at i) c)) (refl, (refl, (refl, (refl, h))));
  fits = λ a. tt;
}

-- ---- dimensions

abbrev InSet : Type 0
InSet = Unit {0} × SetTree

abbrev DimParts : Type 0
DimParts = ℕ × (SetTree ⊎ (NameTree × InSet))

abbrev dim_at : ℕ → SetTree ⊎ (NameTree × InSet) → DimTree
dim_at at (inl t) = record { at = at; name = None; set = t }
dim_at at (inr c) = record { at = at; name = Some c.0; set = c.1.1 }

abbrev dim_to : DimParts → DimTree
dim_to c = dim_at c.0 c.1

abbrev in_set : Rules → Parser InSet
in_set r = pair (word words.In) (g.set r)

dim_by_name : (r : Rules) (at : ℕ) (t : SetTree) (o : Option NameTree) (j : Input) → cond {A = Outcome DimTree} (is_word words.In (kind j)) (g.dim_named r at o j) (Ok (record { at = at; name = None; set = t }, j))
    ≡ and_then (cond {A = Outcome (SetTree ⊎ (NameTree × InSet))} (is_word words.In (kind j)) (by_view (in_set r) o j) (Ok (inl t, j))) (λ c. pure (dim_at at c))
dim_by_name r at t None j = simp steps
dim_by_name r at t (Some c) j = simp steps

dim_of_is : (r : Rules) (at : ℕ) (t : SetTree) (j : Input) → g.dim_of r at t j ≡ and_then (look_at (is_word words.In) name_of (in_set r) t j) (λ c. pure (dim_at at c))
unfolding g.dim_of
dim_of_is r at t j = dim_by_name r at t (name_of t) j

dim_is : (r : Rules) (i : Input) → g.dim r i ≡ mapped dim_to (placed (looked (g.set r) (is_word words.In) name_of (in_set r))) i
unfolding g.dim
dim_is r i = then_same (g.set r i) (λ t. g.dim_of r (place_at i) t) (λ t j. and_then (look_at (is_word words.In) name_of (in_set r) t j) (λ c. pure (dim_at (place_at i) c))) (dim_of_is r (place_at i)) ∙ simp and_then_assoc

dim_made : (t : DimTree) → Made dim_to t
dim_made t = by_name t.name t.set where
  by_name : (o : Option NameTree) (s : SetTree) → Made dim_to (record { at = t.at; name = o; set = s })
  by_name None s = record { of = (t.at, inl s); is = refl }
  by_name (Some n) s = record { of = (t.at, inr (n, (tt, s))); is = refl }

abbrev in_set_shape : Shape InSet
in_set_shape = pair_shape (word_shape words.In) set_shape

abbrev dim_parts : Shape DimParts
dim_parts = placed_shape (looked_shape (is_word words.In) set_shape marks_name in_set_shape (First starts_add Any))

dim_spelt : (at : ℕ) (c : SetTree ⊎ (NameTree × InSet)) → marks_dim (dim_at at c) ≡ dim_parts.marks (at, c)
dim_spelt at (inl t) = marks_dim-is (dim_at at (inl t))
dim_spelt at (inr c) = marks_dim-is (dim_at at (inr c)) ∙ ap (λ ms. mk.place at ∷ ms) (append_assoc (marks_name c.0) (mk.token (mk.word words.In) ∷ []) (marks_set c.1.1))

pub dim_law : {n : ℕ} {r s : Rules} → RulesLaw n r s → Law n (g.dim r) (g.dim s) dim_shape
dim_law {n} {r} {s} R = plain_law
    (placed_law (looked_law (is_word words.In) (set_law R) (pair_law (word_law words.In) (set_law R) (λ x k h. tt)) name_narrows (λ F k h. h) (λ y k h. word_ends words.In 4 (omega arith) k h) (λ F k h. h))) dim_to (record {
      made = dim_made;
      marks = λ c. dim_spelt c.0 c.1;
      view = λ x. tt;
      tag = λ c. refl;
      closes = λ k h. (omega arith, (omega arith, no_word words.In 5 (λ e. omega (arith, e)) k h));
      begins = λ F k h. h;
    }) (g.dim r) (g.dim s) (dim_is r) (dim_is s)

pub comma_dims : {X : Type 0} (k : Option Kind) → (is_sign signs.Comma k ≡ true) ⊎ (Ends 5 k × X) → Ends 5 k
comma_dims k (inl h) = sign_ends signs.Comma 5 (omega arith) k h
comma_dims k (inr h) = h.0

pub dims_law : {n : ℕ} {r s : Rules} → RulesLaw n r s → Law n (g.dims r) (g.dims s) dims_shape
unfolding g.dims
dims_law {n} {r} {s} R = pair_law (dim_law R) (each_law signs.Comma (dim_law R) (sign_ends signs.Comma 5 (omega arith))) (λ x k h. comma_dims k h)

-- ---- types and fields

abbrev TypeParts : Type 0
TypeParts = (ℕ × Unit {0}) ⊎ ((ℕ × ((Unit {0} × TypeTree) × Unit {0})) ⊎ NameTree)

abbrev type_to : TypeParts → TypeTree
type_to (inl c) = types.Int c.0
type_to (inr (inl c)) = types.Set c.0 c.1.0.1
type_to (inr (inr t)) = types.Named t

abbrev type_read : Rules → Parser TypeParts
type_read r = either (is_word words.Int) (placed (word words.Int)) (either (is_sign signs.OpenBrace) (placed (pair (opened (sign_table signs.OpenBrace) r.type_tree) (sign signs.CloseBrace))) g.name)

abbrev type_parts : Shape TypeParts
type_parts = either_shape (placed_shape (word_shape words.Int)) (either_shape (placed_shape (pair_shape (opened_shape (λ u. mk.sign signs.OpenBrace) (sign_first signs.OpenBrace) type_shape) (sign_shape signs.CloseBrace))) name_shape)

type_is : (r : Rules) (i : Input) → g.type_tree r i ≡ mapped type_to (type_read r) i
unfolding g.type_tree g.int_type g.set_type
type_is r i = simp steps

type_layer_made : (x : TypeTree-F TypeTree) → Made type_to (roll-TypeTree x)
type_layer_made (TypeTree-F.Int at) = record { of = inl (at, tt); is = sym (types.rolls-Int at) }
type_layer_made (TypeTree-F.Named t) = record { of = inr (inr t); is = sym (types.rolls-Named t) }
type_layer_made (TypeTree-F.Set at t) = record { of = inr (inl (at, ((tt, t), tt))); is = sym (types.rolls-Set at t) }

type_made : (t : TypeTree) → Made type_to t
type_made t = subst (Made type_to) (roll-out-TypeTree t) (type_layer_made (out-TypeTree t))

type_spelt : (c : TypeParts) → marks_type (type_to c) ≡ type_parts.marks c
type_spelt (inl c) = marks_type-Int c.0
type_spelt (inr (inl c)) = marks_type-Set c.0 c.1.0.1
type_spelt (inr (inr t)) = marks_type-Named t

pub type_law : {n : ℕ} {r s : Rules} → RulesLaw n r s → Law n (g.type_tree r) (g.type_tree s) type_shape
type_law {n} {r} {s} R = plain_law
    (either_law (is_word words.Int) (placed_law (word_law words.Int)) (either_law (is_sign signs.OpenBrace) (placed_law (pair_law (opened_law (sign_reads signs.OpenBrace) R.type_tree) (sign_law signs.CloseBrace) (λ x k h. tt))) name_law
    (λ F k h. h) (λ F k h. from_name (λ l. sees_sign signs.OpenBrace l ≡ false) k h refl)) (λ F k h. h)
    (λ F k h. by_side (λ a. from_sign signs.OpenBrace (λ l. sees_word words.Int l ≡ false) k a refl) (λ a. from_name (λ l. sees_word words.Int l ≡ false) k a refl) h)) type_to (record {
      made = type_made;
      marks = type_spelt;
      view = λ x. tt;
      tag = λ c. refl;
      closes = λ k h. (tt, (tt, tt));
      begins = λ F k h. by_side (λ a. from_word words.Int (λ l. type_begins l ≡ true) k a refl) (λ a. by_side (λ b. from_sign signs.OpenBrace (λ l. type_begins l ≡ true) k b refl) (λ b. from_name (λ l. type_begins l ≡ true) k b refl) a) h;
    }) (g.type_tree r) (g.type_tree s) (type_is r) (type_is s)

pub type_written : (t : TypeTree) → Written (marks_type t)
type_written t = subst (λ x. Written (marks_type x)) (type_made t).is (subst Written (sym (type_spelt (type_made t).of)) (at_parts (type_made t).of)) where
  at_parts : (c : TypeParts) → Written (type_parts.marks c)
  at_parts (inl c) = record { first = mk.word words.Int; is = refl }
  at_parts (inr (inl c)) = record { first = mk.sign signs.OpenBrace; is = refl }
  at_parts (inr (inr t)) = subst Written (sym (marks_name-is t)) (record { first = mk.name t.text; is = refl })

abbrev FieldParts : Type 0
FieldParts = ℕ × (TypeTree × (NameTree × Unit {0}))

abbrev field_to : FieldParts → FieldTree
field_to c = record { at = c.0; kind = c.1.0; name = c.1.1.0 }

field_is : (r : Rules) (i : Input) → g.field r i ≡ mapped field_to (placed (pair (g.type_tree r) (pair g.name (sign signs.Semicolon)))) i
unfolding g.field
field_is r i = simp steps

pub field_law : {n : ℕ} {r s : Rules} → RulesLaw n r s → Law n (g.field r) (g.field s) field_shape
field_law {n} {r} {s} R = plain_law (placed_law (pair_law (type_law R) (pair_law name_law (sign_law signs.Semicolon) (λ x k h. tt)) (λ x k h. tt))) field_to (record {
  made = λ t. record { of = (t.at, (t.kind, (t.name, tt))); is = refl };
  marks = λ c. marks_field-is (field_to c);
  view = λ x. tt;
  tag = λ c. refl;
  closes = λ k h. tt;
  begins = λ F k h. h;
}) (g.field r) (g.field s) (field_is r) (field_is s)

field_written : (t : FieldTree) → Written (marks_field t)
field_written t = subst Written (sym (marks_field-is t)) (at_place (written_behind (marks_type t.kind) (marks_name t.name ++ mk.token (mk.sign signs.Semicolon) ∷ []) (type_written t.kind))) where
  at_place : {ms : List Mark} → Written ms → Written (mk.place t.at ∷ ms)
  at_place w = record { first = w.first; is = w.is }

pub fields_law : {n : ℕ} {r s : Rules} → RulesLaw n r s → Law n (g.fields r) (g.fields s) fields_shape
unfolding g.fields
fields_law {n} {r} {s} R = pair_law (field_law R) (many_law starts_type (field_law R) (record { passes = λ F k h. h; meets = λ k h. tt; written = field_written })) (λ x k h. tt)
