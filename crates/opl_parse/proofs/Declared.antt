-- Declarations.
use Rattle.std.proofs.Common.{◌≡◌, ℕ, Bool, true, false, cond, ◌⊎◌, inl, inr, List, [], ◌∷◌, ◌++◌, Option, refl, sym, ap, ◌∙◌, subst, arith}
use Rattle.std.specs.Option.{option_map}
use Rattle.opl_token.specs.declared.sign.Sign.{Sign}
use Rattle.opl_token.specs.declared.sign.Sign.TheVariants as signs
use Rattle.opl_token.specs.declared.token.Kind.{Kind}
use Rattle.opl_tree.specs.declared.declaration.DeclTree.{DeclTree}
use Rattle.opl_tree.specs.declared.declaration.DataDeclTree.{DataDeclTree}
use Rattle.opl_tree.specs.declared.declaration.InitialTree.{InitialTree}
use Rattle.opl_tree.specs.declared.declaration.TypeTree.{TypeTree}
use Rattle.opl_tree.specs.declared.declaration.DimsTree.{DimsTree}
use Rattle.opl_tree.specs.declared.declaration.DimTree.{DimTree}
use Rattle.opl_tree.specs.declared.declaration.RangeTree.{RangeTree}
use Rattle.opl_tree.specs.declared.declaration.EnumTree.{EnumTree}
use Rattle.opl_tree.specs.declared.declaration.EnumNamesTree.{EnumNamesTree}
use Rattle.opl_tree.specs.declared.declaration.StructTree.{StructTree}
use Rattle.opl_tree.specs.declared.declaration.FieldTree.{FieldTree}
use Rattle.opl_tree.specs.declared.declaration.VariableTree.{VariableTree}
use Rattle.opl_tree.specs.declared.declaration.VariableTypeTree.{VariableTypeTree}
use Rattle.opl_tree.specs.declared.declaration.BoundsTree.{BoundsTree}
use Rattle.opl_tree.specs.declared.declaration.ActivityTree.{ActivityTree}
use Rattle.opl_tree.specs.declared.declaration.UnaryTree.{UnaryTree}
use Rattle.opl_tree.specs.declared.declaration.DiscreteTree.{DiscreteTree}
use Rattle.opl_tree.specs.declared.declaration.ScheduleTree.{ScheduleTree}
use Rattle.opl_tree.specs.declared.declaration.ScheduleEnd.{ScheduleEnd}
use Rattle.opl_tree.specs.declared.expression.NameTree.{NameTree}
use Rattle.opl_tree.specs.declared.expression.AddTree.{AddTree}
use Rattle.opl_tree.specs.declared.keyword.Keyword.{Keyword}
use Rattle.opl_tree.specs.declared.declaration.DeclTree.TheVariants as decls
use Rattle.opl_tree.specs.declared.declaration.InitialTree.TheVariants as initials
use Rattle.opl_tree.specs.declared.declaration.EnumNamesTree.TheVariants as enum_names
use Rattle.opl_tree.specs.declared.declaration.VariableTypeTree.TheVariants as variable_types
use Rattle.opl_tree.specs.declared.keyword.Keyword.TheVariants as words
use Rattle.opl_grammar.specs.declared.look.Look.{Look}
use Rattle.opl_grammar.specs.declared.look.Look.TheVariants as looks
use Rattle.opl_tree.specs.Marks.{Mark, joined, schedule_word, marks_name, marks_add, marks_type, marks_dim, marks_dims, marks_initial, marks_data, marks_range, marks_enum_names, marks_enum, marks_field, marks_struct, marks_variable_type, marks_bounds, marks_variable, marks_activity, marks_unary, marks_discrete, marks_schedule, marks_decl}
use Rattle.opl_tree.specs.Marks as mk
use Rattle.opl_tree.proofs.Marks.{marks_dims-is, marks_initial-External, marks_initial-Written, marks_data-is, marks_range-is, marks_enum_names-Listed, marks_enum_names-External, marks_enum-is, marks_struct-is, marks_variable_type-Int, marks_variable_type-Named, marks_bounds-is, marks_variable-is, marks_activity-is, marks_unary-is, marks_discrete-is, marks_schedule-is, marks_decl-Data, marks_decl-Range, marks_decl-Enumeration, marks_decl-Structure, marks_decl-Variable, marks_decl-Activity, marks_decl-Unary, marks_decl-Discrete, marks_decl-Schedule}
use Rattle.opl_grammar.specs.Input.{Input, Outcome, Parser, kind, one, sign, word, look, sees_sign, sees_word, is_sign, is_word, is_name, behind, flag}
use Rattle.opl_grammar.specs.Input as input
use Rattle.opl_grammar.specs.Tables.{schedule_end_in, sign_starts, word_starts_add, starts_add, type_begins, starts_type, word_starts_decl, decl_begins, starts_decl}
use Rattle.opl_grammar.specs.Rules as g
use Rattle.opl_grammar.specs.Declarations as gd
use Rattle.opl_grammar.specs.Rules.{Rules}
use Rattle.opl_parse.proofs.Dims.{type_law, type_written}
use Rattle.opl_parse.proofs.Follow.{Ends, sign_ends}
use Rattle.opl_reader_laws.proofs.Forms.{placed, placed_shape, placed_law, maybe, maybe_shape, maybe_law, either, by_side, either_shape, either_law, mapped, Made, plain, plain_law}
use Rattle.opl_reader_laws.proofs.Opened.{opened, opened_shape, opened_law}
use Rattle.opl_parse.proofs.Ops.{schedule_end_part, schedule_end_first, schedule_end_reads, from_schedule_end}
use Rattle.opl_reader_laws.proofs.Options.{after_maybe, written_maybe}
use Rattle.opl_reader_laws.proofs.Outcomes.{and_then_assoc, steps}
use Rattle.opl_parse.proofs.Params.{flag_shape, flag_law}
use Rattle.opl_reader_laws.proofs.Phrases.{pair_eq, Shape, Law, Any, one_law, pair, pair_shape, pair_law}
use Rattle.opl_parse.proofs.Prims.{name_law}
use Rattle.opl_parse.proofs.Shapes.{First, name_shape, add_shape, names_shape, RulesLaw}
use Rattle.opl_parse.proofs.Sums.{add_law, upper_law}
use Rattle.opl_reader_laws.proofs.Takes.{Written, written_behind}
use Rattle.opl_reader_laws.proofs.Tokens.{from_sign, from_word, from_name, sign_table, sign_first, sign_reads, sign_shape, word_shape, sign_law, word_law}
use Rattle.opl_grammar.specs.Tables as tables
use Rattle.opl_tree.specs.Marks.{Mark}
use Rattle.opl_tree.specs.declared.declaration.ScheduleEnd.TheVariants as schedule_ends

-- ---- dimensions that may be written

abbrev pub dims_tree_shape : Shape DimsTree
dims_tree_shape = plain marks_dims Any (First (is_sign signs.OpenBracket))

abbrev dims_tree_to : ℕ × ((Unit {0} × (DimTree × List DimTree)) × Unit {0}) → DimsTree
dims_tree_to c = record { at = c.0; first = c.1.0.1.0; rest = c.1.0.1.1 }

dims_tree_is : (r : Rules) (i : Input) → gd.dims_tree r i ≡ mapped dims_tree_to (placed (pair (opened (sign_table signs.OpenBracket) r.dims) (sign signs.CloseBracket))) i
unfolding gd.dims_tree
dims_tree_is r i = simp steps

dims_tree_law : {n : ℕ} {r s : Rules} → RulesLaw n r s → Law n (gd.dims_tree r) (gd.dims_tree s) dims_tree_shape
dims_tree_law {n} {r} {s} R = plain_law (placed_law (pair_law (opened_law (sign_reads signs.OpenBracket) R.dims) (sign_law signs.CloseBracket) (λ x k h. (sign_ends signs.CloseBracket 5 (omega arith) k h, from_sign signs.CloseBracket (λ l. sees_sign signs.Comma l ≡ false) k h refl)))) dims_tree_to (record {
  made = λ t. record { of = (t.at, ((tt, (t.first, t.rest)), tt)); is = refl };
  marks = λ c. marks_dims-is (dims_tree_to c);
  view = λ x. tt;
  tag = λ c. refl;
  closes = λ k h. tt;
  begins = λ F k h. h;
}) (gd.dims_tree r) (gd.dims_tree s) (dims_tree_is r) (dims_tree_is s)

abbrev pub optional_dims_shape : Shape (Option DimsTree)
optional_dims_shape = maybe_shape (is_sign signs.OpenBracket) dims_tree_shape

pub optional_dims_law : {n : ℕ} {r s : Rules} → RulesLaw n r s → Law n (gd.optional_dims r) (gd.optional_dims s) optional_dims_shape
unfolding gd.optional_dims
optional_dims_law R = maybe_law (is_sign signs.OpenBracket) (dims_tree_law R) (λ F k h. h)

dims_written : (o : Option DimsTree) → mk.written (option_map marks_dims o) ≡ optional_dims_shape.marks o
dims_written o = written_maybe dims_tree_shape o

-- ---- data

add_no_ellipsis_sign : (s : Sign) → sign_starts s ≡ true → sees_sign signs.Ellipsis (looks.Sign s) ≡ false
add_no_ellipsis_sign signs.Ellipsis h = cc
add_no_ellipsis_sign s h = refl

add_no_ellipsis_seen : (l : Look) → tables.begins sign_starts word_starts_add l ≡ true → sees_sign signs.Ellipsis l ≡ false
add_no_ellipsis_seen (looks.Sign s) h = add_no_ellipsis_sign s h
add_no_ellipsis_seen (looks.Word w) h = refl
add_no_ellipsis_seen looks.Name h = refl
add_no_ellipsis_seen looks.Number h = refl
add_no_ellipsis_seen looks.Nothing h = refl
add_no_ellipsis_seen looks.Other h = refl

abbrev InitialParts : Type 0
InitialParts = (ℕ × Unit {0}) ⊎ AddTree

abbrev initial_to : InitialParts → InitialTree
initial_to (inl c) = initials.External c.0
initial_to (inr t) = initials.Written t

abbrev initial_read : Rules → Parser InitialParts
initial_read r = either (is_sign signs.Ellipsis) (placed (sign signs.Ellipsis)) (g.add r)

abbrev initial_parts : Shape InitialParts
initial_parts = either_shape (placed_shape (sign_shape signs.Ellipsis)) add_shape

initial_is : (r : Rules) (i : Input) → gd.initial r i ≡ mapped initial_to (initial_read r) i
unfolding gd.initial gd.external
initial_is r i = simp steps

initial_made : (t : InitialTree) → Made initial_to t
initial_made (initials.External at) = record { of = inl (at, tt); is = refl }
initial_made (initials.Written t) = record { of = inr t; is = refl }

initial_spelt : (c : InitialParts) → marks_initial (initial_to c) ≡ initial_parts.marks c
initial_spelt (inl c) = marks_initial-External c.0
initial_spelt (inr t) = marks_initial-Written t

abbrev initial_shape : Shape InitialTree
initial_shape = plain marks_initial (Ends 3) (λ F k. (is_sign signs.Ellipsis k ≡ true) ⊎ (starts_add k ≡ true))

initial_law : {n : ℕ} {r s : Rules} → RulesLaw n r s → Law n (gd.initial r) (gd.initial s) initial_shape
initial_law {n} {r} {s} R = plain_law (either_law (is_sign signs.Ellipsis) (placed_law (sign_law signs.Ellipsis)) (add_law R) (λ F k h. h) (λ F k h. add_no_ellipsis_seen (look k) h)) initial_to (record {
  made = initial_made;
  marks = initial_spelt;
  view = λ x. tt;
  tag = λ c. refl;
  closes = λ k h. (tt, h);
  begins = λ F k h. h;
}) (gd.initial r) (gd.initial s) (initial_is r) (initial_is s)

abbrev pub data_shape : Shape DataDeclTree
data_shape = plain marks_data (Any) (First starts_type)

abbrev data_to : ℕ × ((TypeTree) × ((NameTree) × ((Option DimsTree) × ((Unit {0}) × ((InitialTree) × (Unit {0})))))) → DataDeclTree
data_to c = record { at = c.0; kind = c.1.0; name = c.1.1.0; dims = c.1.1.1.0; initial = c.1.1.1.1.1.0 }

data_is : (r : Rules) (i : Input) → gd.data_decl r i ≡ mapped data_to (placed (pair (g.type_tree r) (pair g.name (pair (gd.optional_dims r) (pair (sign signs.Equal) (pair (gd.initial r) (sign signs.Semicolon))))))) i
unfolding gd.data_decl
data_is r i = simp and_then_assoc

pub data_law : {n : ℕ} {r s : Rules} → RulesLaw n r s → Law n (gd.data_decl r) (gd.data_decl s) data_shape
data_law {n} {r} {s} R = plain_law (placed_law (pair_law (type_law R) (pair_law name_law (pair_law (optional_dims_law R) (pair_law (sign_law signs.Equal) (pair_law (initial_law R) (sign_law signs.Semicolon) (λ x k h. sign_ends signs.Semicolon 3 (omega arith) k h)) (λ x k h. tt)) (λ x k h. (tt, from_sign signs.Equal (λ l. sees_sign signs.OpenBracket l ≡ false) k h refl))) (λ x k h. tt)) (λ x k h. tt))) data_to (record {
  made = λ t. record { of = (t.at, (t.kind, (t.name, (t.dims, (tt, (t.initial, tt)))))); is = refl };
  marks = λ c. marks_data-is (data_to c) ∙ ap (λ ms. mk.place c.0 ∷ (marks_type c.1.0 ++ (marks_name c.1.1.0 ++ (ms ++ mk.token (mk.sign signs.Equal) ∷ (marks_initial c.1.1.1.1.1.0 ++ mk.token (mk.sign signs.Semicolon) ∷ []))))) (dims_written c.1.1.1.0);
  view = λ x. tt;
  tag = λ c. refl;
  closes = λ k h. tt;
  begins = λ F k h. h;
}) (gd.data_decl r) (gd.data_decl s) (data_is r) (data_is s)

abbrev pub range_shape : Shape RangeTree
range_shape = plain marks_range (Any) (First (is_word words.Range))

abbrev range_to : ℕ × ((Unit {0}) × ((NameTree) × ((AddTree) × ((AddTree) × (Unit {0}))))) → RangeTree
range_to c = record { at = c.0; name = c.1.1.0; low = c.1.1.1.0; high = c.1.1.1.1.0 }

range_is : (r : Rules) (i : Input) → gd.range_decl r i ≡ mapped range_to (placed (pair (word words.Range) (pair g.name (pair (g.add r) (pair (g.upper r) (sign signs.Semicolon)))))) i
unfolding gd.range_decl
range_is r i = simp and_then_assoc

pub range_law : {n : ℕ} {r s : Rules} → RulesLaw n r s → Law n (gd.range_decl r) (gd.range_decl s) range_shape
range_law {n} {r} {s} R = plain_law (placed_law (pair_law (word_law words.Range) (pair_law name_law (pair_law (add_law R) (pair_law (upper_law R) (sign_law signs.Semicolon) (λ x k h. sign_ends signs.Semicolon 3 (omega arith) k h)) (λ x k h. sign_ends signs.Range 3 (omega arith) k h)) (λ x k h. tt)) (λ x k h. tt))) range_to (record {
  made = λ t. record { of = (t.at, (tt, (t.name, (t.low, (t.high, tt))))); is = refl };
  marks = λ c. marks_range-is (range_to c);
  view = λ x. tt;
  tag = λ c. refl;
  closes = λ k h. tt;
  begins = λ F k h. h;
}) (gd.range_decl r) (gd.range_decl s) (range_is r) (range_is s)

-- ---- enumerations

abbrev EnumNamesParts : Type 0
EnumNamesParts = (ℕ × ((Unit {0} × (NameTree × List NameTree)) × Unit {0})) ⊎ (ℕ × (Bool × Unit {0}))

abbrev enum_names_to : EnumNamesParts → EnumNamesTree
enum_names_to (inl c) = enum_names.Listed c.0 c.1.0.1.0 c.1.0.1.1
enum_names_to (inr c) = enum_names.External c.0 c.1.0

abbrev enum_names_read : Rules → Parser EnumNamesParts
enum_names_read r = either (is_sign signs.OpenBrace) (placed (pair (opened (sign_table signs.OpenBrace) r.names) (sign signs.CloseBrace))) (placed (pair (input.flag (is_sign signs.Equal) (sign signs.Equal)) (sign signs.Ellipsis)))

abbrev enum_names_parts : Shape EnumNamesParts
enum_names_parts = either_shape (placed_shape (pair_shape (opened_shape (λ u. mk.sign signs.OpenBrace) (sign_first signs.OpenBrace) names_shape) (sign_shape signs.CloseBrace))) (placed_shape (pair_shape (flag_shape (is_sign signs.Equal) (mk.sign signs.Equal)) (sign_shape signs.Ellipsis)))

abbrev enum_names_reader : Rules → Parser EnumNamesTree
enum_names_reader r = input.either (is_sign signs.OpenBrace) (gd.listed_names r) (gd.external_names r)

listed_names_is : (r : Rules) (i : Input) → gd.listed_names r i ≡ mapped (λ (c : ℕ × ((Unit {0} × (NameTree × List NameTree)) × Unit {0})). enum_names.Listed c.0 c.1.0.1.0 c.1.0.1.1) (placed (pair (opened (sign_table signs.OpenBrace) r.names) (sign signs.CloseBrace))) i
unfolding gd.listed_names
listed_names_is r i = simp steps

external_names_is : (r : Rules) (i : Input) → gd.external_names r i ≡ mapped (λ (c : ℕ × (Bool × Unit {0})). enum_names.External c.0 c.1.0) (placed (pair (input.flag (is_sign signs.Equal) (sign signs.Equal)) (sign signs.Ellipsis))) i
unfolding gd.external_names
external_names_is r i = simp and_then_assoc

enum_names_is : (r : Rules) (i : Input) → enum_names_reader r i ≡ mapped enum_names_to (enum_names_read r) i
enum_names_is r i = rw (listed_names_is r i, external_names_is r i) (simp steps)

enum_names_made : (t : EnumNamesTree) → Made enum_names_to t
enum_names_made (enum_names.Listed at t ts) = record { of = inl (at, ((tt, (t, ts)), tt)); is = refl }
enum_names_made (enum_names.External at b) = record { of = inr (at, (b, tt)); is = refl }

enum_names_spelt : (c : EnumNamesParts) → marks_enum_names (enum_names_to c) ≡ enum_names_parts.marks c
enum_names_spelt (inl c) = marks_enum_names-Listed c.0 c.1.0.1.0 c.1.0.1.1
enum_names_spelt (inr c) = marks_enum_names-External c.0 c.1.0

abbrev enum_names_shape : Shape EnumNamesTree
enum_names_shape = plain marks_enum_names Any (λ F k. (is_sign signs.OpenBrace k ≡ true) ⊎ ((is_sign signs.Equal k ≡ true) ⊎ (is_sign signs.Ellipsis k ≡ true)))

enum_names_law : {n : ℕ} {r s : Rules} → RulesLaw n r s → Law n (enum_names_reader r) (enum_names_reader s) enum_names_shape
enum_names_law {n} {r} {s} R = plain_law
    (either_law (is_sign signs.OpenBrace) (placed_law (pair_law (opened_law (sign_reads signs.OpenBrace) R.names) (sign_law signs.CloseBrace) (λ x k h. (tt, from_sign signs.CloseBrace (λ l. sees_sign signs.Comma l ≡ false) k h refl))))
    (placed_law (pair_law (flag_law (is_sign signs.Equal) (sign_reads signs.Equal) (λ k h. h)) (sign_law signs.Ellipsis) (λ x k h. from_sign signs.Ellipsis (λ l. sees_sign signs.Equal l ≡ false) k h refl)))
    (λ F k h. h) (λ F k h. by_side (λ a. from_sign signs.Equal (λ l. sees_sign signs.OpenBrace l ≡ false) k a refl) (λ a. from_sign signs.Ellipsis (λ l. sees_sign signs.OpenBrace l ≡ false) k a refl) h)) enum_names_to (record {
      made = enum_names_made;
      marks = enum_names_spelt;
      view = λ x. tt;
      tag = λ c. refl;
      closes = λ k h. (tt, tt);
      begins = λ F k h. h;
    }) (enum_names_reader r) (enum_names_reader s) (enum_names_is r) (enum_names_is s)

abbrev pub enum_shape : Shape EnumTree
enum_shape = plain marks_enum (Any) (First (is_word words.Enum))

abbrev enum_to : ℕ × ((Unit {0}) × ((NameTree) × ((EnumNamesTree) × (Unit {0})))) → EnumTree
enum_to c = record { at = c.0; name = c.1.1.0; names = c.1.1.1.0 }

enum_is : (r : Rules) (i : Input) → gd.enum_decl r i ≡ mapped enum_to (placed (pair (word words.Enum) (pair g.name (pair (enum_names_reader r) (sign signs.Semicolon))))) i
unfolding gd.enum_decl
enum_is r i = simp and_then_assoc

pub enum_law : {n : ℕ} {r s : Rules} → RulesLaw n r s → Law n (gd.enum_decl r) (gd.enum_decl s) enum_shape
enum_law {n} {r} {s} R = plain_law (placed_law (pair_law (word_law words.Enum) (pair_law name_law (pair_law (enum_names_law R) (sign_law signs.Semicolon) (λ x k h. tt)) (λ x k h. tt)) (λ x k h. tt))) enum_to (record {
  made = λ t. record { of = (t.at, (tt, (t.name, (t.names, tt)))); is = refl };
  marks = λ c. marks_enum-is (enum_to c);
  view = λ x. tt;
  tag = λ c. refl;
  closes = λ k h. tt;
  begins = λ F k h. h;
}) (gd.enum_decl r) (gd.enum_decl s) (enum_is r) (enum_is s)

abbrev pub struct_shape : Shape StructTree
struct_shape = plain marks_struct (Any) (First (is_word words.Struct))

abbrev struct_to : ℕ × ((Unit {0}) × ((NameTree) × (((Unit {0} × (FieldTree × List FieldTree))) × ((Unit {0}) × (Unit {0}))))) → StructTree
struct_to c = record { at = c.0; name = c.1.1.0; first = c.1.1.1.0.1.0; rest = c.1.1.1.0.1.1 }

struct_is : (r : Rules) (i : Input) → gd.struct_decl r i ≡ mapped struct_to (placed (pair (word words.Struct) (pair g.name (pair (opened (sign_table signs.OpenBrace) r.fields) (pair (sign signs.CloseBrace) (sign signs.Semicolon)))))) i
unfolding gd.struct_decl
struct_is r i = simp and_then_assoc

pub struct_law : {n : ℕ} {r s : Rules} → RulesLaw n r s → Law n (gd.struct_decl r) (gd.struct_decl s) struct_shape
struct_law {n} {r} {s} R = plain_law (placed_law (pair_law (word_law words.Struct) (pair_law name_law (pair_law (opened_law (sign_reads signs.OpenBrace) R.fields) (pair_law (sign_law signs.CloseBrace) (sign_law signs.Semicolon) (λ x k h. tt)) (λ x k h. (tt, from_sign signs.CloseBrace (λ l. type_begins l ≡ false) k h refl))) (λ x k h. tt)) (λ x k h. tt))) struct_to (record {
  made = λ t. record { of = (t.at, (tt, (t.name, ((tt, (t.first, t.rest)), (tt, tt))))); is = refl };
  marks = λ c. marks_struct-is (struct_to c);
  view = λ x. tt;
  tag = λ c. refl;
  closes = λ k h. tt;
  begins = λ F k h. h;
}) (gd.struct_decl r) (gd.struct_decl s) (struct_is r) (struct_is s)

-- ---- variables

abbrev VariableTypeParts : Type 0
VariableTypeParts = (ℕ × Unit {0}) ⊎ NameTree

abbrev variable_type_to : VariableTypeParts → VariableTypeTree
variable_type_to (inl c) = variable_types.Int c.0
variable_type_to (inr t) = variable_types.Named t

variable_type_is : (r : Rules) (i : Input) → gd.variable_type r i ≡ mapped variable_type_to (either (is_word words.Int) (placed (word words.Int)) g.name) i
unfolding gd.variable_type gd.int_variable
variable_type_is r i = simp steps

variable_type_made : (t : VariableTypeTree) → Made variable_type_to t
variable_type_made (variable_types.Int at) = record { of = inl (at, tt); is = refl }
variable_type_made (variable_types.Named t) = record { of = inr t; is = refl }

variable_type_spelt : (c : VariableTypeParts) → marks_variable_type (variable_type_to c) ≡ (either_shape (placed_shape (word_shape words.Int)) name_shape).marks c
variable_type_spelt (inl c) = marks_variable_type-Int c.0
variable_type_spelt (inr t) = marks_variable_type-Named t

abbrev variable_type_shape : Shape VariableTypeTree
variable_type_shape = plain marks_variable_type Any (λ F k. (is_word words.Int k ≡ true) ⊎ (is_name k ≡ true))

variable_type_law : {n : ℕ} (r s : Rules) → Law n (gd.variable_type r) (gd.variable_type s) variable_type_shape
variable_type_law {n} r s = plain_law (either_law (is_word words.Int) (placed_law (word_law words.Int)) name_law (λ F k h. h) (λ F k h. from_name (λ l. sees_word words.Int l ≡ false) k h refl)) variable_type_to (record {
  made = variable_type_made;
  marks = variable_type_spelt;
  view = λ x. tt;
  tag = λ c. refl;
  closes = λ k h. (tt, tt);
  begins = λ F k h. h;
}) (gd.variable_type r) (gd.variable_type s) (variable_type_is r) (variable_type_is s)

abbrev pub bounds_shape : Shape BoundsTree
bounds_shape = plain marks_bounds (Ends 3) (First (is_word words.In))

abbrev bounds_to : ℕ × ((Unit {0}) × ((AddTree) × (AddTree))) → BoundsTree
bounds_to c = record { at = c.0; low = c.1.1.0; high = c.1.1.1 }

bounds_is : (r : Rules) (i : Input) → gd.bounds r i ≡ mapped bounds_to (placed (pair (word words.In) (pair (g.add r) (g.upper r)))) i
unfolding gd.bounds
bounds_is r i = simp and_then_assoc

pub bounds_law : {n : ℕ} {r s : Rules} → RulesLaw n r s → Law n (gd.bounds r) (gd.bounds s) bounds_shape
bounds_law {n} {r} {s} R = plain_law (placed_law (pair_law (word_law words.In) (pair_law (add_law R) (upper_law R) (λ x k h. sign_ends signs.Range 3 (omega arith) k h)) (λ x k h. tt))) bounds_to (record {
  made = λ t. record { of = (t.at, (tt, (t.low, t.high))); is = refl };
  marks = λ c. marks_bounds-is (bounds_to c);
  view = λ x. tt;
  tag = λ c. refl;
  closes = λ k h. h;
  begins = λ F k h. h;
}) (gd.bounds r) (gd.bounds s) (bounds_is r) (bounds_is s)

bounds_meet : (k : Option Kind) → (is_word words.In k ≡ true) ⊎ (is_sign signs.Semicolon k ≡ true) → Unit {0} × (is_sign signs.OpenBracket k ≡ false)
bounds_meet k (inl h) = (tt, from_word words.In (λ l. sees_sign signs.OpenBracket l ≡ false) k h refl)
bounds_meet k (inr h) = (tt, from_sign signs.Semicolon (λ l. sees_sign signs.OpenBracket l ≡ false) k h refl)

abbrev pub variable_shape : Shape VariableTree
variable_shape = plain marks_variable (Any) (First (is_word words.Var))

abbrev variable_to : ℕ × ((Unit {0}) × ((VariableTypeTree) × ((NameTree) × ((Option DimsTree) × ((Option BoundsTree) × (Unit {0})))))) → VariableTree
variable_to c = record { at = c.0; kind = c.1.1.0; name = c.1.1.1.0; dims = c.1.1.1.1.0; bounds = c.1.1.1.1.1.0 }

variable_is : (r : Rules) (i : Input) → gd.variable_decl r i ≡ mapped variable_to (placed (pair (word words.Var) (pair (gd.variable_type r) (pair g.name (pair (gd.optional_dims r) (pair (maybe (is_word words.In) (gd.bounds r)) (sign signs.Semicolon))))))) i
unfolding gd.variable_decl
variable_is r i = simp and_then_assoc

pub variable_law : {n : ℕ} {r s : Rules} → RulesLaw n r s → Law n (gd.variable_decl r) (gd.variable_decl s) variable_shape
variable_law {n} {r} {s} R = plain_law (placed_law (pair_law (word_law words.Var) (pair_law (variable_type_law r s) (pair_law name_law (pair_law (optional_dims_law R) (pair_law (maybe_law (is_word words.In) (bounds_law R) (λ F k h. h)) (sign_law signs.Semicolon) (λ x k h. (sign_ends signs.Semicolon 3 (omega arith) k h, from_sign signs.Semicolon (λ l. sees_word words.In l ≡ false) k h refl))) (λ x k h. bounds_meet k h)) (λ x k h. tt)) (λ x k h. tt)) (λ x k h. tt))) variable_to (record {
  made = λ t. record { of = (t.at, (tt, (t.kind, (t.name, (t.dims, (t.bounds, tt)))))); is = refl };
  marks = λ c. marks_variable-is (variable_to c) ∙ (ap (λ ms. mk.place c.0 ∷ mk.token (mk.word words.Var) ∷ (marks_variable_type c.1.1.0 ++ (marks_name c.1.1.1.0 ++ (ms ++ (mk.written (option_map marks_bounds c.1.1.1.1.1.0) ++ mk.token (mk.sign signs.Semicolon) ∷ []))))) (dims_written c.1.1.1.1.0) ∙ ap (λ ms. mk.place c.0 ∷ mk.token (mk.word words.Var) ∷ (marks_variable_type c.1.1.0 ++ (marks_name c.1.1.1.0 ++ (optional_dims_shape.marks c.1.1.1.1.0 ++ (ms ++ mk.token (mk.sign signs.Semicolon) ∷ []))))) (written_maybe bounds_shape c.1.1.1.1.1.0));
  view = λ x. tt;
  tag = λ c. refl;
  closes = λ k h. tt;
  begins = λ F k h. h;
}) (gd.variable_decl r) (gd.variable_decl s) (variable_is r) (variable_is s)

-- ---- activities and resources

abbrev closed_end : List Mark
closed_end = mk.token (mk.sign signs.CloseParenthesis) ∷ mk.token (mk.sign signs.Semicolon) ∷ []

abbrev pub activity_shape : Shape ActivityTree
activity_shape = plain marks_activity (Any) (First (is_word words.Activity))

abbrev activity_to : ℕ × ((Unit {0}) × ((NameTree) × ((Option DimsTree) × (((Unit {0} × (AddTree × Option AddTree))) × ((Unit {0}) × (Unit {0})))))) → ActivityTree
activity_to c = record { at = c.0; name = c.1.1.0; dims = c.1.1.1.0; shortest = c.1.1.1.1.0.1.0; longest = c.1.1.1.1.0.1.1 }

activity_is : (r : Rules) (i : Input) → gd.activity_decl r i ≡ mapped activity_to (placed (pair (word words.Activity) (pair g.name (pair (gd.optional_dims r) (pair (opened (sign_table signs.OpenParenthesis) r.ends) (pair (sign signs.CloseParenthesis) (sign signs.Semicolon))))))) i
unfolding gd.activity_decl
activity_is r i = simp and_then_assoc

pub activity_law : {n : ℕ} {r s : Rules} → RulesLaw n r s → Law n (gd.activity_decl r) (gd.activity_decl s) activity_shape
activity_law {n} {r} {s} R = plain_law (placed_law (pair_law (word_law words.Activity) (pair_law name_law (pair_law (optional_dims_law R) (pair_law (opened_law (sign_reads signs.OpenParenthesis) R.ends) (pair_law (sign_law signs.CloseParenthesis) (sign_law signs.Semicolon) (λ x k h. tt)) (λ x k h. ((sign_ends signs.CloseParenthesis 3 (omega arith) k h, from_sign signs.CloseParenthesis (λ l. sees_sign signs.Range l ≡ false) k h refl), sign_ends signs.CloseParenthesis 3 (omega arith) k h))) (λ x k h. (tt, from_sign signs.OpenParenthesis (λ l. sees_sign signs.OpenBracket l ≡ false) k h refl))) (λ x k h. tt)) (λ x k h. tt))) activity_to (record {
  made = λ t. record { of = (t.at, (tt, (t.name, (t.dims, ((tt, (t.shortest, t.longest)), (tt, tt)))))); is = refl };
  marks = λ c. marks_activity-is (activity_to c) ∙ ap (λ p. mk.place c.0 ∷ mk.token (mk.word words.Activity) ∷ (marks_name c.1.1.0 ++ (p.0 ++ (mk.nested (mk.sign signs.OpenParenthesis) (marks_add c.1.1.1.1.0.1.0 ++ p.1) ++ closed_end)))) (pair_eq (dims_written c.1.1.1.0) (after_maybe (mk.sign signs.Range) (sign_first signs.Range) add_shape c.1.1.1.1.0.1.1));
  view = λ x. tt;
  tag = λ c. refl;
  closes = λ k h. tt;
  begins = λ F k h. h;
}) (gd.activity_decl r) (gd.activity_decl s) (activity_is r) (activity_is s)

abbrev pub unary_shape : Shape UnaryTree
unary_shape = plain marks_unary (Any) (First (is_word words.UnaryResource))

abbrev unary_to : ℕ × ((Unit {0}) × ((NameTree) × ((Option DimsTree) × (Unit {0})))) → UnaryTree
unary_to c = record { at = c.0; name = c.1.1.0; dims = c.1.1.1.0 }

unary_is : (r : Rules) (i : Input) → gd.unary_decl r i ≡ mapped unary_to (placed (pair (word words.UnaryResource) (pair g.name (pair (gd.optional_dims r) (sign signs.Semicolon))))) i
unfolding gd.unary_decl
unary_is r i = simp and_then_assoc

pub unary_law : {n : ℕ} {r s : Rules} → RulesLaw n r s → Law n (gd.unary_decl r) (gd.unary_decl s) unary_shape
unary_law {n} {r} {s} R = plain_law (placed_law (pair_law (word_law words.UnaryResource) (pair_law name_law (pair_law (optional_dims_law R) (sign_law signs.Semicolon) (λ x k h. (tt, from_sign signs.Semicolon (λ l. sees_sign signs.OpenBracket l ≡ false) k h refl))) (λ x k h. tt)) (λ x k h. tt))) unary_to (record {
  made = λ t. record { of = (t.at, (tt, (t.name, (t.dims, tt)))); is = refl };
  marks = λ c. marks_unary-is (unary_to c) ∙ ap (λ ms. mk.place c.0 ∷ mk.token (mk.word words.UnaryResource) ∷ (marks_name c.1.1.0 ++ (ms ++ mk.token (mk.sign signs.Semicolon) ∷ []))) (dims_written c.1.1.1.0);
  view = λ x. tt;
  tag = λ c. refl;
  closes = λ k h. tt;
  begins = λ F k h. h;
}) (gd.unary_decl r) (gd.unary_decl s) (unary_is r) (unary_is s)

abbrev pub discrete_shape : Shape DiscreteTree
discrete_shape = plain marks_discrete (Any) (First (is_word words.DiscreteResource))

abbrev discrete_to : ℕ × ((Unit {0}) × ((NameTree) × ((Option DimsTree) × (((Unit {0} × AddTree)) × ((Unit {0}) × (Unit {0})))))) → DiscreteTree
discrete_to c = record { at = c.0; name = c.1.1.0; dims = c.1.1.1.0; capacity = c.1.1.1.1.0.1 }

discrete_is : (r : Rules) (i : Input) → gd.discrete_decl r i ≡ mapped discrete_to (placed (pair (word words.DiscreteResource) (pair g.name (pair (gd.optional_dims r) (pair (opened (sign_table signs.OpenParenthesis) r.add) (pair (sign signs.CloseParenthesis) (sign signs.Semicolon))))))) i
unfolding gd.discrete_decl
discrete_is r i = simp and_then_assoc

pub discrete_law : {n : ℕ} {r s : Rules} → RulesLaw n r s → Law n (gd.discrete_decl r) (gd.discrete_decl s) discrete_shape
discrete_law {n} {r} {s} R = plain_law (placed_law (pair_law (word_law words.DiscreteResource) (pair_law name_law (pair_law (optional_dims_law R) (pair_law (opened_law (sign_reads signs.OpenParenthesis) R.add) (pair_law (sign_law signs.CloseParenthesis) (sign_law signs.Semicolon) (λ x k h. tt)) (λ x k h. sign_ends signs.CloseParenthesis 3 (omega arith) k h)) (λ x k h. (tt, from_sign signs.OpenParenthesis (λ l. sees_sign signs.OpenBracket l ≡ false) k h refl))) (λ x k h. tt)) (λ x k h. tt))) discrete_to (record {
  made = λ t. record { of = (t.at, (tt, (t.name, (t.dims, ((tt, t.capacity), (tt, tt)))))); is = refl };
  marks = λ c. marks_discrete-is (discrete_to c) ∙ ap (λ ms. mk.place c.0 ∷ mk.token (mk.word words.DiscreteResource) ∷ (marks_name c.1.1.0 ++ (ms ++ (mk.nested (mk.sign signs.OpenParenthesis) (marks_add c.1.1.1.1.0.1) ++ closed_end)))) (dims_written c.1.1.1.0);
  view = λ x. tt;
  tag = λ c. refl;
  closes = λ k h. tt;
  begins = λ F k h. h;
}) (gd.discrete_decl r) (gd.discrete_decl s) (discrete_is r) (discrete_is s)

abbrev pub schedule_shape : Shape ScheduleTree
schedule_shape = plain marks_schedule (Any) (λ F. schedule_end_first)

abbrev schedule_to : ℕ × ((ScheduleEnd) × ((Unit {0}) × ((AddTree) × (Unit {0})))) → ScheduleTree
schedule_to c = record { at = c.0; end = c.1.0; value = c.1.1.1.0 }

schedule_is : (r : Rules) (i : Input) → gd.schedule_decl r i ≡ mapped schedule_to (placed (pair (one schedule_end_in) (pair (sign signs.Equal) (pair (g.add r) (sign signs.Semicolon))))) i
unfolding gd.schedule_decl
schedule_is r i = simp and_then_assoc

pub schedule_law : {n : ℕ} {r s : Rules} → RulesLaw n r s → Law n (gd.schedule_decl r) (gd.schedule_decl s) schedule_shape
schedule_law {n} {r} {s} R = plain_law (placed_law (pair_law (one_law schedule_end_reads) (pair_law (sign_law signs.Equal) (pair_law (add_law R) (sign_law signs.Semicolon) (λ x k h. sign_ends signs.Semicolon 3 (omega arith) k h)) (λ x k h. tt)) (λ x k h. tt))) schedule_to (record {
  made = λ t. record { of = (t.at, (t.end, (tt, (t.value, tt)))); is = refl };
  marks = λ c. marks_schedule-is (schedule_to c);
  view = λ x. tt;
  tag = λ c. refl;
  closes = λ k h. tt;
  begins = λ F k h. h;
}) (gd.schedule_decl r) (gd.schedule_decl s) (schedule_is r) (schedule_is s)

schedule_not_Range : (a : ScheduleEnd) → sees_word words.Range (looks.Word (schedule_word a)) ≡ false
schedule_not_Range schedule_ends.Origin = refl
schedule_not_Range schedule_ends.Horizon = refl

schedule_not_Enum : (a : ScheduleEnd) → sees_word words.Enum (looks.Word (schedule_word a)) ≡ false
schedule_not_Enum schedule_ends.Origin = refl
schedule_not_Enum schedule_ends.Horizon = refl

schedule_not_Struct : (a : ScheduleEnd) → sees_word words.Struct (looks.Word (schedule_word a)) ≡ false
schedule_not_Struct schedule_ends.Origin = refl
schedule_not_Struct schedule_ends.Horizon = refl

schedule_not_Var : (a : ScheduleEnd) → sees_word words.Var (looks.Word (schedule_word a)) ≡ false
schedule_not_Var schedule_ends.Origin = refl
schedule_not_Var schedule_ends.Horizon = refl

schedule_not_Activity : (a : ScheduleEnd) → sees_word words.Activity (looks.Word (schedule_word a)) ≡ false
schedule_not_Activity schedule_ends.Origin = refl
schedule_not_Activity schedule_ends.Horizon = refl

schedule_not_UnaryResource : (a : ScheduleEnd) → sees_word words.UnaryResource (looks.Word (schedule_word a)) ≡ false
schedule_not_UnaryResource schedule_ends.Origin = refl
schedule_not_UnaryResource schedule_ends.Horizon = refl

schedule_not_DiscreteResource : (a : ScheduleEnd) → sees_word words.DiscreteResource (looks.Word (schedule_word a)) ≡ false
schedule_not_DiscreteResource schedule_ends.Origin = refl
schedule_not_DiscreteResource schedule_ends.Horizon = refl

schedule_no_type : (a : ScheduleEnd) → type_begins (looks.Word (schedule_word a)) ≡ false
schedule_no_type schedule_ends.Origin = refl
schedule_no_type schedule_ends.Horizon = refl

schedule_starts : (a : ScheduleEnd) → word_starts_decl (schedule_word a) ≡ true
schedule_starts schedule_ends.Origin = refl
schedule_starts schedule_ends.Horizon = refl

-- ---- a declaration

abbrev DeclParts : Type 0
DeclParts = DataDeclTree ⊎ (RangeTree ⊎ (EnumTree ⊎ (StructTree ⊎ (VariableTree ⊎ (ActivityTree ⊎ (UnaryTree ⊎ (DiscreteTree ⊎ (ScheduleTree))))))))

abbrev decl_to : DeclParts → DeclTree
decl_to (inl t) = decls.Data t
decl_to (inr (inl t)) = decls.Range t
decl_to (inr (inr (inl t))) = decls.Enumeration t
decl_to (inr (inr (inr (inl t)))) = decls.Structure t
decl_to (inr (inr (inr (inr (inl t))))) = decls.Variable t
decl_to (inr (inr (inr (inr (inr (inl t)))))) = decls.Activity t
decl_to (inr (inr (inr (inr (inr (inr (inl t))))))) = decls.Unary t
decl_to (inr (inr (inr (inr (inr (inr (inr (inl t)))))))) = decls.Discrete t
decl_to (inr (inr (inr (inr (inr (inr (inr (inr t)))))))) = decls.Schedule t

abbrev decl_read : Rules → Parser DeclParts
decl_read r = (either starts_type (gd.data_decl r) (either (is_word words.Range) (gd.range_decl r) (either (is_word words.Enum) (gd.enum_decl r) (either (is_word words.Struct) (gd.struct_decl r) (either (is_word words.Var) (gd.variable_decl r) (either (is_word words.Activity) (gd.activity_decl r) (either (is_word words.UnaryResource) (gd.unary_decl r) (either (is_word words.DiscreteResource) (gd.discrete_decl r) (gd.schedule_decl r)))))))))

abbrev decl_parts : Shape DeclParts
decl_parts = (either_shape data_shape (either_shape range_shape (either_shape enum_shape (either_shape struct_shape (either_shape variable_shape (either_shape activity_shape (either_shape unary_shape (either_shape discrete_shape schedule_shape))))))))

word_decl_is : (r : Rules) (i : Input) → gd.word_decl r i ≡ cond {A = Outcome DeclTree} (is_word words.Range (kind i)) (mapped decls.Range (gd.range_decl r) i) (cond {A = Outcome DeclTree} (is_word words.Enum (kind i)) (mapped decls.Enumeration (gd.enum_decl r) i)
    (cond {A = Outcome DeclTree} (is_word words.Struct (kind i)) (mapped decls.Structure (gd.struct_decl r) i) (cond {A = Outcome DeclTree} (is_word words.Var (kind i)) (mapped decls.Variable (gd.variable_decl r) i) (gd.scheduled_decl r i))))
unfolding gd.word_decl
word_decl_is r i = refl

scheduled_decl_is : (r : Rules) (i : Input) → gd.scheduled_decl r i ≡ cond {A = Outcome DeclTree} (is_word words.Activity (kind i)) (mapped decls.Activity (gd.activity_decl r) i) (cond {A = Outcome DeclTree} (is_word words.UnaryResource (kind i)) (mapped decls.Unary (gd.unary_decl r) i)
    (cond {A = Outcome DeclTree} (is_word words.DiscreteResource (kind i)) (mapped decls.Discrete (gd.discrete_decl r) i) (mapped decls.Schedule (gd.schedule_decl r) i)))
unfolding gd.scheduled_decl
scheduled_decl_is r i = refl

decl_is : (r : Rules) (i : Input) → gd.decl r i ≡ mapped decl_to (decl_read r) i
unfolding gd.decl
decl_is r i = rw (word_decl_is r i, scheduled_decl_is r i) (simp steps)

decl_made : (t : DeclTree) → Made decl_to t
decl_made (decls.Data t) = record { of = inl t; is = refl }
decl_made (decls.Range t) = record { of = inr (inl t); is = refl }
decl_made (decls.Enumeration t) = record { of = inr (inr (inl t)); is = refl }
decl_made (decls.Structure t) = record { of = inr (inr (inr (inl t))); is = refl }
decl_made (decls.Variable t) = record { of = inr (inr (inr (inr (inl t)))); is = refl }
decl_made (decls.Activity t) = record { of = inr (inr (inr (inr (inr (inl t))))); is = refl }
decl_made (decls.Unary t) = record { of = inr (inr (inr (inr (inr (inr (inl t)))))); is = refl }
decl_made (decls.Discrete t) = record { of = inr (inr (inr (inr (inr (inr (inr (inl t))))))); is = refl }
decl_made (decls.Schedule t) = record { of = inr (inr (inr (inr (inr (inr (inr (inr t))))))); is = refl }

decl_spelt : (c : DeclParts) → marks_decl (decl_to c) ≡ decl_parts.marks c
decl_spelt (inl t) = marks_decl-Data t
decl_spelt (inr (inl t)) = marks_decl-Range t
decl_spelt (inr (inr (inl t))) = marks_decl-Enumeration t
decl_spelt (inr (inr (inr (inl t)))) = marks_decl-Structure t
decl_spelt (inr (inr (inr (inr (inl t))))) = marks_decl-Variable t
decl_spelt (inr (inr (inr (inr (inr (inl t)))))) = marks_decl-Activity t
decl_spelt (inr (inr (inr (inr (inr (inr (inl t))))))) = marks_decl-Unary t
decl_spelt (inr (inr (inr (inr (inr (inr (inr (inl t)))))))) = marks_decl-Discrete t
decl_spelt (inr (inr (inr (inr (inr (inr (inr (inr t)))))))) = marks_decl-Schedule t

type_word_decl : (w : Keyword) → type_begins (looks.Word w) ≡ true → decl_begins (looks.Word w) ≡ true
type_word_decl words.Int h = refl
type_word_decl w h = cc

type_sign_decl : (s : Sign) → type_begins (looks.Sign s) ≡ true → decl_begins (looks.Sign s) ≡ true
type_sign_decl signs.OpenBrace h = refl
type_sign_decl s h = cc

type_starts_decl : (l : Look) → type_begins l ≡ true → decl_begins l ≡ true
type_starts_decl looks.Name h = refl
type_starts_decl (looks.Word w) h = type_word_decl w h
type_starts_decl (looks.Sign s) h = type_sign_decl s h
type_starts_decl looks.Number h = cc
type_starts_decl looks.Nothing h = cc
type_starts_decl looks.Other h = cc

abbrev pub decl_shape : Shape DeclTree
decl_shape = plain marks_decl Any (First starts_decl)

pub decl_law : {n : ℕ} {r s : Rules} → RulesLaw n r s → Law n (gd.decl r) (gd.decl s) decl_shape
decl_law {n} {r} {s} R = plain_law (either_law starts_type (data_law R) (either_law (is_word words.Range) (range_law R) (either_law (is_word words.Enum) (enum_law R) (either_law (is_word words.Struct) (struct_law R) (either_law (is_word words.Var) (variable_law R) (either_law (is_word words.Activity) (activity_law R) (either_law (is_word words.UnaryResource) (unary_law R) (either_law (is_word words.DiscreteResource) (discrete_law R) (schedule_law R)
    (λ F k h. h) (λ F k h. from_schedule_end (λ l. sees_word words.DiscreteResource l ≡ false) k h (λ a. schedule_not_DiscreteResource a)))
    (λ F k h. h) (λ F k h. (by_side (λ a. from_word words.DiscreteResource (λ l. sees_word words.UnaryResource l ≡ false) k a refl) (λ a. from_schedule_end (λ l. sees_word words.UnaryResource l ≡ false) k a (λ a. schedule_not_UnaryResource a))) h))
    (λ F k h. h) (λ F k h. (by_side (λ a. from_word words.UnaryResource (λ l. sees_word words.Activity l ≡ false) k a refl) (by_side (λ a. from_word words.DiscreteResource (λ l. sees_word words.Activity l ≡ false) k a refl) (λ a. from_schedule_end (λ l. sees_word words.Activity l ≡ false) k a (λ a. schedule_not_Activity a)))) h))
    (λ F k h. h) (λ F k h. (by_side (λ a. from_word words.Activity (λ l. sees_word words.Var l ≡ false) k a refl) (by_side (λ a. from_word words.UnaryResource (λ l. sees_word words.Var l ≡ false) k a refl) (by_side (λ a. from_word words.DiscreteResource (λ l. sees_word words.Var l ≡ false) k a refl) (λ a. from_schedule_end (λ l. sees_word words.Var l ≡ false) k a (λ a. schedule_not_Var a))))) h))
    (λ F k h. h) (λ F k h. (by_side (λ a. from_word words.Var (λ l. sees_word words.Struct l ≡ false) k a refl) (by_side (λ a. from_word words.Activity (λ l. sees_word words.Struct l ≡ false) k a refl) (by_side (λ a. from_word words.UnaryResource (λ l. sees_word words.Struct l ≡ false) k a refl) (by_side (λ a. from_word words.DiscreteResource (λ l. sees_word words.Struct l ≡ false) k a refl) (λ a. from_schedule_end (λ l. sees_word words.Struct l ≡ false) k a (λ a. schedule_not_Struct a)))))) h))
    (λ F k h. h) (λ F k h. (by_side (λ a. from_word words.Struct (λ l. sees_word words.Enum l ≡ false) k a refl) (by_side (λ a. from_word words.Var (λ l. sees_word words.Enum l ≡ false) k a refl) (by_side (λ a. from_word words.Activity (λ l. sees_word words.Enum l ≡ false) k a refl) (by_side (λ a. from_word words.UnaryResource (λ l. sees_word words.Enum l ≡ false) k a refl) (by_side (λ a. from_word words.DiscreteResource (λ l. sees_word words.Enum l ≡ false) k a refl) (λ a. from_schedule_end (λ l. sees_word words.Enum l ≡ false) k a (λ a. schedule_not_Enum a))))))) h))
    (λ F k h. h) (λ F k h. (by_side (λ a. from_word words.Enum (λ l. sees_word words.Range l ≡ false) k a refl) (by_side (λ a. from_word words.Struct (λ l. sees_word words.Range l ≡ false) k a refl) (by_side (λ a. from_word words.Var (λ l. sees_word words.Range l ≡ false) k a refl) (by_side (λ a. from_word words.Activity (λ l. sees_word words.Range l ≡ false) k a refl) (by_side (λ a. from_word words.UnaryResource (λ l. sees_word words.Range l ≡ false) k a refl) (by_side (λ a. from_word words.DiscreteResource (λ l. sees_word words.Range l ≡ false) k a refl) (λ a. from_schedule_end (λ l. sees_word words.Range l ≡ false) k a (λ a. schedule_not_Range a)))))))) h))
    (λ F k h. h) (λ F k h. (by_side (λ a. from_word words.Range (λ l. type_begins l ≡ false) k a refl) (by_side (λ a. from_word words.Enum (λ l. type_begins l ≡ false) k a refl) (by_side (λ a. from_word words.Struct (λ l. type_begins l ≡ false) k a refl) (by_side (λ a. from_word words.Var (λ l. type_begins l ≡ false) k a refl) (by_side (λ a. from_word words.Activity (λ l. type_begins l ≡ false) k a refl) (by_side (λ a. from_word words.UnaryResource (λ l. type_begins l ≡ false) k a refl) (by_side (λ a. from_word words.DiscreteResource (λ l. type_begins l ≡ false) k a refl) (λ a. from_schedule_end (λ l. type_begins l ≡ false) k a (λ a. schedule_no_type a))))))))) h)) decl_to (record {
      made = decl_made;
      marks = decl_spelt;
      view = λ x. tt;
      tag = λ c. refl;
      closes = λ k h. (tt, (tt, (tt, (tt, (tt, (tt, (tt, (tt, tt))))))));
      begins = λ F k h. (by_side (λ a. type_starts_decl (look k) a) (by_side (λ a. from_word words.Range (λ l. decl_begins l ≡ true) k a refl) (by_side (λ a. from_word words.Enum (λ l. decl_begins l ≡ true) k a refl) (by_side (λ a. from_word words.Struct (λ l. decl_begins l ≡ true) k a refl) (by_side (λ a. from_word words.Var (λ l. decl_begins l ≡ true) k a refl) (by_side (λ a. from_word words.Activity (λ l. decl_begins l ≡ true) k a refl) (by_side (λ a. from_word words.UnaryResource (λ l. decl_begins l ≡ true) k a refl) (by_side (λ a. from_word words.DiscreteResource (λ l. decl_begins l ≡ true) k a refl) (λ a. from_schedule_end (λ l. decl_begins l ≡ true) k a (λ a. schedule_starts a)))))))))) h;
    }) (gd.decl r) (gd.decl s) (decl_is r) (decl_is s)

pub decl_written : (t : DeclTree) → Written (marks_decl t)
decl_written t = subst (λ x. Written (marks_decl x)) (decl_made t).is (subst Written (sym (decl_spelt (decl_made t).of)) (at_parts (decl_made t).of)) where
  at_place : {ms : List Mark} (at : ℕ) → Written ms → Written (mk.place at ∷ ms)
  at_place at w = record { first = w.first; is = w.is }

  at_parts : (c : DeclParts) → Written (decl_parts.marks c)
  at_parts (inl t) = subst Written (sym (marks_data-is t)) (at_place t.at (written_behind (marks_type t.kind) (marks_name t.name ++ (mk.written (option_map marks_dims t.dims) ++ mk.token (mk.sign signs.Equal) ∷ (marks_initial t.initial ++ mk.token (mk.sign signs.Semicolon) ∷ []))) (type_written t.kind)))
  at_parts (inr (inl t)) = subst Written (sym (marks_range-is t)) (record { first = mk.word words.Range; is = refl })
  at_parts (inr (inr (inl t))) = subst Written (sym (marks_enum-is t)) (record { first = mk.word words.Enum; is = refl })
  at_parts (inr (inr (inr (inl t)))) = subst Written (sym (marks_struct-is t)) (record { first = mk.word words.Struct; is = refl })
  at_parts (inr (inr (inr (inr (inl t))))) = subst Written (sym (marks_variable-is t)) (record { first = mk.word words.Var; is = refl })
  at_parts (inr (inr (inr (inr (inr (inl t)))))) = subst Written (sym (marks_activity-is t)) (record { first = mk.word words.Activity; is = refl })
  at_parts (inr (inr (inr (inr (inr (inr (inl t))))))) = subst Written (sym (marks_unary-is t)) (record { first = mk.word words.UnaryResource; is = refl })
  at_parts (inr (inr (inr (inr (inr (inr (inr (inl t)))))))) = subst Written (sym (marks_discrete-is t)) (record { first = mk.word words.DiscreteResource; is = refl })
  at_parts (inr (inr (inr (inr (inr (inr (inr (inr t)))))))) = subst Written (sym (marks_schedule-is t)) (record { first = schedule_end_part t.end; is = refl })
