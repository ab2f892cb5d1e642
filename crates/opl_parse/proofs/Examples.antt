-- A phrase of each kind, before whatever may follow it.
use Rattle.std.proofs.Common.{◌≡◌, ℕ, zero, suc, true, false, inr, List, [], ◌∷◌, ◌++◌, Option, Some, None, refl, sym, ap, ◌∙◌, subst, append-nil, pos}
use Rattle.opl_token.specs.declared.sign.Sign.{Sign}
use Rattle.opl_token.specs.declared.sign.Sign.TheVariants as signs
use Rattle.opl_token.specs.declared.token.Kind.{Kind}
use Rattle.opl_token.specs.declared.token.Kind.TheVariants as kinds
use Rattle.opl_tree.specs.declared.declaration.FieldTree.{FieldTree}
use Rattle.opl_tree.specs.declared.expression.NameTree.{NameTree}
use Rattle.opl_tree.specs.declared.expression.PostTree.{PostTree}
use Rattle.opl_tree.specs.declared.expression.SetTree.{SetTree}
use Rattle.opl_tree.specs.declared.expression.ParamsTree.{ParamsTree}
use Rattle.opl_tree.specs.declared.expression.GroupTree.{GroupTree}
use Rattle.opl_tree.specs.declared.expression.PatternTree.TheVariants as patterns
use Rattle.opl_tree.specs.declared.expression.PrimTree.TheVariants as prims
use Rattle.opl_tree.specs.declared.expression.SignTree.TheVariants as factors
use Rattle.opl_tree.specs.declared.declaration.TypeTree.TheVariants as types
use Rattle.opl_tree.specs.declared.keyword.Keyword.TheVariants as words
use Rattle.opl_tree.specs.declared.expression.CompareTree.TheViews.{roll-GroupTree, roll-ParamsTree, roll-PostTree, roll-SetTree}
use Rattle.opl_grammar.specs.declared.parts.Operand.TheVariants as operands
use Rattle.opl_grammar.specs.declared.parts.Braced.TheVariants as braces
use Rattle.opl_tree.specs.Marks.{Mark, marks_name, marks_expr, marks_imp, marks_neg, marks_add, marks_mul, marks_post, marks_prim, marks_set, marks_params, marks_group, marks_dim, marks_field, marks_ordered_params}
use Rattle.opl_tree.specs.Keywords.{keyword_text}
use Rattle.opl_tree.specs.Marks as mk
use Rattle.opl_tree.proofs.Marks.{marks_name-is, marks_pattern-Single, marks_neg-Compare, marks_prim-Number, marks_sign-Postfix, marks_group-of, marks_params-of, marks_post-of, marks_set-of, marks_type-Int, marks_dim-is, marks_field-is, marks_ordered_params-is}
use Rattle.opl_grammar.specs.Input.{Input, kind, is_sign, is_word, is_name}
use Rattle.opl_grammar.specs.Tables.{type_begins, starts_type}
use Rattle.opl_parse.proofs.Dims.{comma_dims}
use Rattle.opl_reader_laws.proofs.Led.{each_shape}
use Rattle.opl_reader_laws.proofs.Many.{many_shape}
use Rattle.opl_parse.proofs.Narrow.{wide_mul, wide_mul_is, wide_add, wide_add_is, wide_compare, wide_compare_is, wide_neg, wide_and_is, wide_or_is, wide_imp, wide_imp_is, wide_expr, wide_expr_is}
use Rattle.opl_reader_laws.proofs.Options.{or_true_right}
use Rattle.opl_parse.proofs.Params.{params_close, comma_meets}
use Rattle.opl_reader_laws.proofs.Phrases.{Shape, Samples, pair_shape, Meets}
use Rattle.opl_parse.proofs.Shapes.{name_shape, post_shape, operand_shape, mul_shape, add_shape, neg_shape, imp_shape, expr_shape, starts_pattern, starts_group, params_shape, ordered_shape, adds_shape, listed_shape, keyed_shape, braced_shape, optional_upper, ends_shape, names_shape, chosen_shape, aggregated_shape, type_shape, field_shape, fields_shape, dim_shape, dims_shape}
use Rattle.opl_reader_laws.proofs.Levels.{takes_raised}
use Rattle.opl_reader_laws.proofs.Takes.{Takes, takes_join}
use Rattle.opl_reader_laws.proofs.Tokens.{look_of_text, empty_name, name_reads}
use Rattle.opl_tree.specs.Marks.{Mark}
use Rattle.opl_reader_laws.proofs.Levels.{takes_raised}
use Rattle.opl_reader_laws.proofs.Takes.{before as before_part}

-- ---- one phrase behind another, and no phrase

pub pair_samples : {A B : Type 0} {s : Shape A} {t : Shape B} → Meets s t → ((x : t.Tag) (k : Option Kind) → t.closes k → t.ends x k) → Samples s → Samples t → Samples (pair_shape s t)
pair_samples {A} {B} {s} {t} meets closing P Q tail h =
    let b = Q tail h in
    let a = P b.whole (meets (t.tag b.value) (kind b.whole) (b.starts (t.ends (t.tag b.value)) (closing (t.tag b.value) (kind tail) h))) in
    record {
      whole = a.whole;
      value = (a.value, b.value);
      takes = takes_join (s.marks a.value) (t.marks b.value) a.whole b.whole tail a.takes b.takes;
      starts = λ F k. a.starts (t.begins F) (b.starts F k);
    }

pub no_each : {A : Type 0} (s : Sign) (t : Shape A) → Samples (each_shape s t)
no_each s t tail h = record { whole = tail; value = []; takes = refl; starts = λ F k. inr k }

-- ---- the number 0, as a phrase of each kind

abbrev pub one_post : PostTree
one_post = roll-PostTree (record { at = 0; prim = prims.Number 0 (pos 0); suffixes = [] })

abbrev pub zero_marks : List Mark
zero_marks = mk.place 0 ∷ mk.place 0 ∷ mk.token (mk.number (pos 0)) ∷ []

one_post_is : marks_post one_post ≡ zero_marks
one_post_is = marks_post-of 0 (prims.Number 0 (pos 0)) [] ∙ ap (λ ms. mk.place 0 ∷ ms) (append-nil (marks_prim (prims.Number 0 (pos 0))) ∙ marks_prim-Number 0 (pos 0))

abbrev pub zeros : ℕ → List Mark → List Mark
zeros zero ms = ms
zeros (suc n) ms = mk.place 0 ∷ zeros n ms

pub zeros_take : (n : ℕ) (tail : Input) → Takes (zeros n zero_marks) (before_part (mk.number (pos 0)) tail) tail
zeros_take zero tail = (refl, (refl, ((refl, tt), refl)))
zeros_take (suc n) tail = (refl, zeros_take n tail)

pub zero_sample : {A : Type 0} (s : Shape A) (a : A) (n : ℕ) → s.marks a ≡ zeros n zero_marks → ((F : Option Kind → Type 0) → s.begins F (Some (kinds.Number (pos 0)))) → Samples s
zero_sample s a n e starts tail h = record {
  whole = before_part (mk.number (pos 0)) tail;
  value = a;
  takes = subst (λ ms. Takes ms (before_part (mk.number (pos 0)) tail) tail) (sym e) (zeros_take n tail);
  starts = λ F k. starts F;
}

pub post_sample : Samples post_shape
post_sample = zero_sample post_shape one_post 0 one_post_is (λ F. refl)

pub operand_sample : Samples operand_shape
operand_sample = zero_sample operand_shape (operands.Sign (factors.Postfix one_post)) 0 (marks_sign-Postfix one_post ∙ one_post_is) (λ F. refl)

one_mul_is : marks_mul (wide_mul 0 one_post) ≡ zeros 1 zero_marks
one_mul_is = wide_mul_is 0 one_post ∙ ap (λ ms. mk.place 0 ∷ ms) one_post_is

pub mul_sample : Samples mul_shape
mul_sample = zero_sample mul_shape (wide_mul 0 one_post) 1 one_mul_is (λ F. refl)

one_add_is : marks_add (wide_add 0 one_post) ≡ zeros 2 zero_marks
one_add_is = wide_add_is 0 one_post ∙ ap (λ ms. mk.place 0 ∷ ms) one_mul_is

pub add_sample : Samples add_shape
add_sample = zero_sample add_shape (wide_add 0 one_post) 2 one_add_is (λ F. refl)

one_neg_is : marks_neg (wide_neg 0 one_post) ≡ zeros 3 zero_marks
one_neg_is = marks_neg-Compare (wide_compare 0 one_post) ∙ (wide_compare_is 0 one_post ∙ ap (λ ms. mk.place 0 ∷ ms) one_add_is)

pub neg_sample : Samples neg_shape
neg_sample = zero_sample neg_shape (wide_neg 0 one_post) 3 one_neg_is (λ F. refl)

one_imp_is : marks_imp (wide_imp 0 one_post) ≡ zeros 6 zero_marks
one_imp_is = wide_imp_is 0 one_post ∙ ap (λ ms. mk.place 0 ∷ ms) (wide_or_is 0 one_post ∙ ap (λ ms. mk.place 0 ∷ ms) (wide_and_is 0 one_post ∙ ap (λ ms. mk.place 0 ∷ ms) one_neg_is))

pub imp_sample : Samples imp_shape
imp_sample = zero_sample imp_shape (wide_imp 0 one_post) 6 one_imp_is (λ F. refl)

pub one_expr_is : marks_expr (wide_expr 0 one_post) ≡ zeros 7 zero_marks
one_expr_is = wide_expr_is 0 one_post ∙ ap (λ ms. mk.place 0 ∷ ms) one_imp_is

pub expr_sample : Samples expr_shape
expr_sample = zero_sample expr_shape (wide_expr 0 one_post) 7 one_expr_is (λ F. refl)

abbrev one_set : SetTree
one_set = roll-SetTree (record { at = 0; low = wide_add 0 one_post; high = None })

one_set_is : marks_set one_set ≡ zeros 3 zero_marks
one_set_is = marks_set-of 0 (wide_add 0 one_post) None ∙ ap (λ ms. mk.place 0 ∷ ms) (append-nil (marks_add (wide_add 0 one_post)) ∙ one_add_is)

one_dim_is : marks_dim (record { at = 0; name = None; set = one_set }) ≡ zeros 4 zero_marks
one_dim_is = marks_dim-is (record { at = 0; name = None; set = one_set }) ∙ ap (λ ms. mk.place 0 ∷ ms) one_set_is

pub dim_sample : Samples dim_shape
dim_sample = zero_sample dim_shape (record { at = 0; name = None; set = one_set }) 4 one_dim_is (λ F. refl)

-- ---- names and parameters

abbrev one_name : NameTree
one_name = record { at = 0; text = [] }

pub name_sample : Samples name_shape
name_sample tail h = record {
  whole = before_part (mk.name []) tail;
  value = one_name;
  takes = subst (λ ms. Takes ms (before_part (mk.name []) tail) tail) (sym (marks_name-is one_name)) (refl, ((refl, empty_name), refl));
  starts = λ F k. name_reads.starts [] empty_name;
}

abbrev one_group : GroupTree
one_group = roll-GroupTree (record { at = 0; is_ordered = false; first = patterns.Single one_name; rest = []; set = one_set })

one_group_is : marks_group one_group ≡ mk.place 0 ∷ mk.place 0 ∷ mk.token (mk.name []) ∷ mk.token (mk.word words.In) ∷ zeros 3 zero_marks
one_group_is = marks_group-of 0 false (patterns.Single one_name) [] one_set
    ∙ (ap (λ ms. mk.place 0 ∷ (ms ++ mk.token (mk.word words.In) ∷ marks_set one_set)) (marks_pattern-Single one_name ∙ marks_name-is one_name)
    ∙ ap (λ ms. mk.place 0 ∷ mk.place 0 ∷ mk.token (mk.name []) ∷ mk.token (mk.word words.In) ∷ ms) one_set_is)

abbrev one_params : ParamsTree
one_params = roll-ParamsTree (record { at = 0; first = one_group; rest = []; condition = None })

one_params_is : marks_params one_params ≡ mk.place 0 ∷ mk.place 0 ∷ mk.place 0 ∷ mk.token (mk.name []) ∷ mk.token (mk.word words.In) ∷ zeros 3 zero_marks
one_params_is = marks_params-of 0 one_group [] None ∙ ap (λ ms. mk.place 0 ∷ ms) (append-nil (marks_group one_group) ∙ one_group_is)

abbrev params_input : Input → Input
params_input tail = before_part (mk.name []) (before_part (mk.word words.In) (before_part (mk.number (pos 0)) tail))

name_starts_group : starts_group (Some (kinds.Word [])) ≡ true
name_starts_group = or_true_right (is_word words.Ordered (Some (kinds.Word []))) (starts_pattern (Some (kinds.Word []))) (or_true_right (is_sign signs.Less (Some (kinds.Word []))) (is_name (Some (kinds.Word []))) (name_reads.starts [] empty_name))

pub params_sample : Samples params_shape
params_sample tail h = record {
  whole = params_input tail;
  value = one_params;
  takes = subst (λ ms. Takes ms (params_input tail) tail) (sym one_params_is) (refl, (refl, (refl, ((refl, empty_name), ((refl, tt), zeros_take 3 tail)))));
  starts = λ F k. name_starts_group;
}

one_ordered_is : marks_ordered_params (record { at = 0; params = one_params; order = None }) ≡ mk.place 0 ∷ marks_params one_params
one_ordered_is = marks_ordered_params-is (record { at = 0; params = one_params; order = None }) ∙ ap (λ ms. mk.place 0 ∷ ms) (append-nil (marks_params one_params))

pub ordered_sample : Samples ordered_shape
ordered_sample tail h =
    record {
      whole = params_input tail;
      value = record { at = 0; params = one_params; order = None };
      takes = subst (λ ms. Takes ms (params_input tail) tail) (sym (one_ordered_is ∙ ap (λ ms. mk.place 0 ∷ ms) one_params_is)) (refl, (refl, (refl, (refl, ((refl, empty_name), ((refl, tt), zeros_take 3 tail))))));
      starts = λ F k. name_starts_group;
    }

pub chosen_sample : Samples chosen_shape
chosen_sample tail h =
    let closed = before_part (mk.sign signs.CloseParenthesis) tail in
    let a = params_sample closed (params_close (kind closed) refl) in
    record {
      whole = before_part (mk.sign signs.OpenParenthesis) a.whole;
      value = a.value;
      takes = ((refl, tt), takes_join (mk.raised (marks_params a.value)) (mk.token (mk.sign signs.CloseParenthesis) ∷ []) a.whole closed tail (takes_raised (marks_params a.value) a.whole closed a.takes) ((refl, tt), refl));
      starts = λ F k. refl;
    }

-- ---- types and fields

int_starts : starts_type (Some (kinds.Word (keyword_text words.Int))) ≡ true
int_starts = ap type_begins (look_of_text words.Int)

pub type_sample : Samples type_shape
type_sample tail h = record {
  whole = before_part (mk.word words.Int) tail;
  value = types.Int 0;
  takes = subst (λ ms. Takes ms (before_part (mk.word words.Int) tail) tail) (sym (marks_type-Int 0)) (refl, ((refl, tt), refl));
  starts = λ F k. int_starts;
}

abbrev one_field : FieldTree
one_field = record { at = 0; kind = types.Int 0; name = one_name }

one_field_is : marks_field one_field ≡ mk.place 0 ∷ mk.place 0 ∷ mk.token (mk.word words.Int) ∷ mk.place 0 ∷ mk.token (mk.name []) ∷ mk.token (mk.sign signs.Semicolon) ∷ []
one_field_is = marks_field-is one_field ∙ (ap (λ ms. mk.place 0 ∷ (ms ++ (marks_name one_name ++ mk.token (mk.sign signs.Semicolon) ∷ []))) (marks_type-Int 0)
    ∙ ap (λ ms. mk.place 0 ∷ mk.place 0 ∷ mk.token (mk.word words.Int) ∷ (ms ++ mk.token (mk.sign signs.Semicolon) ∷ [])) (marks_name-is one_name))

abbrev field_input : Input → Input
field_input tail = before_part (mk.word words.Int) (before_part (mk.name []) (before_part (mk.sign signs.Semicolon) tail))

pub field_sample : Samples field_shape
field_sample tail h = record {
  whole = field_input tail;
  value = one_field;
  takes = subst (λ ms. Takes ms (field_input tail) tail) (sym one_field_is) (refl, (refl, ((refl, tt), (refl, ((refl, empty_name), ((refl, tt), refl))))));
  starts = λ F k. int_starts;
}

-- ---- lists and pairs

pub adds_sample : Samples adds_shape
adds_sample = pair_samples (λ x k h. comma_meets k h) (λ x k h. h) add_sample (no_each signs.Comma add_shape)

pub ends_sample : Samples ends_shape
ends_sample tail h =
    let a = add_sample tail h.1 in
    record {
      whole = a.whole;
      value = (a.value, None);
      takes = takes_join (marks_add a.value) [] a.whole tail tail a.takes refl;
      starts = λ F k. a.starts (optional_upper.begins F) (inr k);
    }

pub aggregated_sample : Samples aggregated_shape
aggregated_sample = pair_samples (λ x k h. tt) (λ x k h. h) chosen_sample mul_sample

pub names_sample : Samples names_shape
names_sample = pair_samples (λ x k h. tt) (λ x k h. h) name_sample (no_each signs.Comma name_shape)

no_fields : Samples (many_shape starts_type field_shape)
no_fields tail h = record { whole = tail; value = []; takes = refl; starts = λ F k. inr k }

pub fields_sample : Samples fields_shape
fields_sample = pair_samples (λ x k h. tt) (λ x k h. h) field_sample no_fields

pub dims_sample : Samples dims_shape
dims_sample = pair_samples (λ x k h. comma_dims k h) (λ x k h. h) dim_sample (no_each signs.Comma dim_shape)

pub listed_sample : Samples listed_shape
listed_sample tail h = record { whole = tail; value = []; takes = refl; starts = λ F k. inr k }

pub keyed_sample : Samples keyed_shape
keyed_sample tail h = record { whole = tail; value = []; takes = refl; starts = λ F k. inr k }

pub braced_sample : Samples braced_shape
braced_sample tail h = record { whole = tail; value = braces.Listed []; takes = refl; starts = λ F k. inr k }
