-- Expressions with their types, or with their first fault, as they are read off the rules by hand.
use Rattle.std.proofs.Common.{◌≡◌, ℕ, true, List, [], ◌∷◌, map, Ok, Err, refl}
use Rattle.std.specs.Prelude.{codes}
use Rattle.opl_tree.specs.declared.expression.NameTree.{NameTree}
use Rattle.opl_tree.specs.declared.expression.PatternTree.TheVariants as patterns
use Rattle.opl_tree.specs.declared.expression.QuestionOp.TheVariants as questions
use Rattle.opl_tree.specs.declared.expression.Relation.TheVariants as relations
use Rattle.opl_type_rules.specs.declared.fault.TypeFault.TheVariants.{Unknown, Duplicate, Mismatch, NotData}
use Rattle.opl_type_rules.specs.Types.{Sort, sorts_of}
use Rattle.opl_type_rules.specs.Types.Sort.{int, bool, set, enumeration, structure, row, empty_set, array, activity, unary, index}
use Rattle.opl_type_rules.specs.Scope.{Checked, ◌>>=◌, Text, Scope, empty_scope, declared, lookup, fields, field_sorts, fit_one_struct, fresh, all_fresh}
use Rattle.opl_type_rules.specs.Scope.Thing.{range, enum_type, enum_name, struct_type, value, variable, activities, resource}
use Rattle.opl_type_rules.specs.Forms.{Form, Params, SetForm, forms_of, pairs_of}
use Rattle.opl_type_rules.specs.Forms.Form.{number, named, bracket, negative, arithmetic, absolute, related, member, connected, aggregate, cardinality, all_different, subscripted, field, tuple, listed, described, cells, keyed_cells, question}
use Rattle.opl_type_rules.specs.Forms.Groups.{no_groups, more_groups}
use Rattle.opl_type_rules.specs.Forms.Params.{all_of, those_of}
use Rattle.opl_type_rules.specs.Forms.SetForm.{whole, between}
use Rattle.opl_type_rules.specs.Expressions.{settled, used, any_type, kinds, typing, typed_parts, typed_pairs, typed_set, open_groups, open_params}
use Rattle.opl_type_rules.specs.Expressions.Need.{nothing}

-- an array over a range
abbrev ints : Sort → Sort
ints s = array (sorts_of (int ∷ [])) s

-- range R; enum E {a,b}; struct S {int f; E g;}; int k; int d[R]; {S} ss; {int} si; S sr[R]; var int x; var E y; var int q[R];
-- Activity ac; Activity cs[R]; UnaryResource u
sc : Scope
sc =
    declared (codes "R") range (declared (codes "E") (enum_type 1) (declared (codes "a") (enum_name 1) (declared (codes "b") (enum_name 1)
    (declared (codes "S") (struct_type 2 (record { name = codes "f"; sort = int } ∷ record { name = codes "g"; sort = enumeration 1 } ∷ []))
    (declared (codes "k") (value int) (declared (codes "d") (value (ints int))
    (declared (codes "ss") (value (set (structure 2))) (declared (codes "si") (value (set int)) (declared (codes "sr") (value (ints (structure 2)))
    (declared (codes "x") (variable int) (declared (codes "y") (variable (enumeration 1)) (declared (codes "q") (variable (ints int))
    (declared (codes "ac") (activities activity) (declared (codes "cs") (activities (ints activity)) (declared (codes "u") (resource unary) empty_scope)))))))))))))))

-- what is found of an expression that may be anything, outside of the search section and in it
abbrev outside : Form → Checked (List Sort)
outside f = typing sc f >>= used nothing any_type >>= (λ n. Ok (kinds n))

abbrev inside : Form → Checked (List Sort)
inside f = typing (record sc { is_search = true }) f >>= used nothing any_type >>= (λ n. Ok (kinds n))

abbrev the : ℕ → Text → NameTree
the at text = record { at = at; text = text }

abbrev name : ℕ → Text → Form
name at text = named (the at text)

-- `i in over`
abbrev i_in : ℕ → SetForm → Params
i_in at over = all_of (more_groups (patterns.Single (the at (codes "i")) ∷ []) over no_groups)

pub record Example : Type 0 where
  pub form : Form
  pub answer : Checked (List Sort)

examples : List Example
examples =
    -- `1 + k`
    record { form = arithmetic 0 (forms_of ((number 0) ∷ (name 4 (codes "k")) ∷ [])); answer = Ok (int ∷ int ∷ int ∷ []) } ∷
    -- `1 + x - 2`, where x is a variable
    record { form = arithmetic 0 (forms_of ((number 0) ∷ (name 4 (codes "x")) ∷ (number 8) ∷ [])); answer = Ok (int ∷ int ∷ int ∷ int ∷ []) } ∷
    -- `1 + (x < 2)`
    record { form = arithmetic 0 (forms_of ((number 0) ∷ (bracket 4 (related 5 (name 5 (codes "x")) relations.Less (number 9))) ∷ [])); answer = Ok (int ∷ int ∷ bool ∷ bool ∷ int ∷ int ∷ []) } ∷
    -- `1 + z`
    record { form = arithmetic 0 (forms_of ((number 0) ∷ (name 4 (codes "z")) ∷ [])); answer = Err (Unknown 4) } ∷
    -- `1 + R`
    record { form = arithmetic 0 (forms_of ((number 0) ∷ (name 4 (codes "R")) ∷ [])); answer = Err (Mismatch 0) } ∷
    -- `1 + a`
    record { form = arithmetic 0 (forms_of ((number 0) ∷ (name 4 (codes "a")) ∷ [])); answer = Err (Mismatch 0) } ∷
    -- `1 + S`
    record { form = arithmetic 0 (forms_of ((number 0) ∷ (name 4 (codes "S")) ∷ [])); answer = Err (Mismatch 0) } ∷
    -- `(1 + a) + z`: the first fault in the order of the text
    record { form = arithmetic 0 (forms_of ((bracket 0 (arithmetic 1 (forms_of ((number 1) ∷ (name 5 (codes "a")) ∷ [])))) ∷ (name 10 (codes "z")) ∷ [])); answer = Err (Mismatch 1) } ∷
    -- `- x`
    record { form = negative 0 (name 2 (codes "x")); answer = Ok (int ∷ int ∷ []) } ∷
    -- `- y`
    record { form = negative 0 (name 2 (codes "y")); answer = Err (Mismatch 0) } ∷
    -- `- ss`
    record { form = negative 0 (name 2 (codes "ss")); answer = Err (Mismatch 0) } ∷
    -- `abs(x)`
    record { form = absolute 0 (name 4 (codes "x")); answer = Ok (int ∷ int ∷ []) } ∷
    -- `abs(a)`
    record { form = absolute 0 (name 4 (codes "a")); answer = Err (Mismatch 0) } ∷
    -- `abs(d)`
    record { form = absolute 0 (name 4 (codes "d")); answer = Err (Mismatch 0) } ∷
    -- `a < y`
    record { form = related 0 (name 0 (codes "a")) relations.Less (name 4 (codes "y")); answer = Ok (bool ∷ (enumeration 1) ∷ (enumeration 1) ∷ []) } ∷
    -- `1 <> (1 < 2)`
    record { form = related 0 (number 0) relations.NotEqual (bracket 5 (related 6 (number 6) relations.Less (number 10))); answer = Ok (bool ∷ int ∷ bool ∷ bool ∷ int ∷ int ∷ []) } ∷
    -- `1 < a`
    record { form = related 0 (number 0) relations.Less (name 4 (codes "a")); answer = Err (Mismatch 0) } ∷
    -- `ss = ss`
    record { form = related 0 (name 0 (codes "ss")) relations.Equal (name 5 (codes "ss")); answer = Err (Mismatch 0) } ∷
    -- `sr[1] = <1,a>`
    record { form = related 0 (subscripted 0 (name 0 (codes "sr")) (forms_of ((number 3) ∷ []))) relations.Equal (tuple 8 (forms_of ((number 9) ∷ (name 11 (codes "a")) ∷ []))); answer = Ok (bool ∷ (structure 2) ∷ (ints (structure 2)) ∷ int ∷ (row (sorts_of (int ∷ (enumeration 1) ∷ []))) ∷ int ∷ (enumeration 1) ∷ []) } ∷
    -- `<1,a> = <2,b>`: a struct is visible that both fit
    record { form = related 0 (tuple 0 (forms_of ((number 1) ∷ (name 3 (codes "a")) ∷ []))) relations.Equal (tuple 8 (forms_of ((number 9) ∷ (name 11 (codes "b")) ∷ []))); answer = Ok (bool ∷ (row (sorts_of (int ∷ (enumeration 1) ∷ []))) ∷ int ∷ (enumeration 1) ∷ (row (sorts_of (int ∷ (enumeration 1) ∷ []))) ∷ int ∷ (enumeration 1) ∷ []) } ∷
    -- `<1,2> = <1,2>`
    record { form = related 0 (tuple 0 (forms_of ((number 1) ∷ (number 3) ∷ []))) relations.Equal (tuple 8 (forms_of ((number 9) ∷ (number 11) ∷ []))); answer = Err (Mismatch 0) } ∷
    -- `sr[1] < <1,a>`
    record { form = related 0 (subscripted 0 (name 0 (codes "sr")) (forms_of ((number 3) ∷ []))) relations.Less (tuple 8 (forms_of ((number 9) ∷ (name 11 (codes "a")) ∷ []))); answer = Err (Mismatch 0) } ∷
    -- `1 in si`
    record { form = member 0 (number 0) (whole (name 5 (codes "si"))); answer = Ok (bool ∷ int ∷ (set int) ∷ []) } ∷
    -- `a in E`
    record { form = member 0 (name 0 (codes "a")) (whole (name 5 (codes "E"))); answer = Ok (bool ∷ (enumeration 1) ∷ (index (enumeration 1)) ∷ []) } ∷
    -- `<1,a> in ss`
    record { form = member 0 (tuple 0 (forms_of ((number 1) ∷ (name 3 (codes "a")) ∷ []))) (whole (name 9 (codes "ss"))); answer = Ok (bool ∷ (row (sorts_of (int ∷ (enumeration 1) ∷ []))) ∷ int ∷ (enumeration 1) ∷ (set (structure 2)) ∷ []) } ∷
    -- `k in 1..3`
    record { form = member 0 (name 0 (codes "k")) (between (number 5) (number 8)); answer = Ok (bool ∷ int ∷ int ∷ int ∷ []) } ∷
    -- `x in R`
    record { form = member 0 (name 0 (codes "x")) (whole (name 5 (codes "R"))); answer = Err (NotData 0) } ∷
    -- `a in R`
    record { form = member 0 (name 0 (codes "a")) (whole (name 5 (codes "R"))); answer = Err (Mismatch 0) } ∷
    -- `(1 < 2) in si`
    record { form = member 0 (bracket 0 (related 1 (number 1) relations.Less (number 5))) (whole (name 11 (codes "si"))); answer = Err (Mismatch 0) } ∷
    -- `1 in x..3`
    record { form = member 0 (number 0) (between (name 5 (codes "x")) (number 8)); answer = Err (NotData 5) } ∷
    -- `1 in 1..a`
    record { form = member 0 (number 0) (between (number 5) (name 8 (codes "a"))); answer = Err (Mismatch 8) } ∷
    -- `not (1 < 2)`
    record { form = connected 0 (forms_of ((bracket 4 (related 5 (number 5) relations.Less (number 9))) ∷ [])); answer = Ok (bool ∷ bool ∷ bool ∷ int ∷ int ∷ []) } ∷
    -- `not 1`
    record { form = connected 0 (forms_of ((number 4) ∷ [])); answer = Err (Mismatch 0) } ∷
    -- `1 = 1 & k`
    record { form = connected 0 (forms_of ((related 0 (number 0) relations.Equal (number 4)) ∷ (name 8 (codes "k")) ∷ [])); answer = Err (Mismatch 0) } ∷
    -- `sum(i in R) q[i]`
    record { form = aggregate 0 (i_in 4 (whole (name 9 (codes "R")))) (subscripted 12 (name 12 (codes "q")) (forms_of ((name 14 (codes "i")) ∷ []))); answer = Ok (int ∷ (index int) ∷ int ∷ (ints int) ∷ int ∷ []) } ∷
    -- `sum(x in R) 1`: a parameter repeats no visible name
    record { form = aggregate 0 (all_of (more_groups (patterns.Single (the 4 (codes "x")) ∷ []) (whole (name 9 (codes "R"))) no_groups)) (number 12); answer = Err (Duplicate 4) } ∷
    -- `sum(i,i in R) 1`
    record { form = aggregate 0 (all_of (more_groups (patterns.Single (the 4 (codes "i")) ∷ patterns.Single (the 6 (codes "i")) ∷ []) (whole (name 11 (codes "R"))) no_groups)) (number 14); answer = Err (Duplicate 6) } ∷
    -- `sum(i in x..3) 1`
    record { form = aggregate 0 (i_in 4 (between (name 9 (codes "x")) (number 12))) (number 15); answer = Err (NotData 9) } ∷
    -- `sum(i in k) 1`
    record { form = aggregate 0 (i_in 4 (whole (name 9 (codes "k")))) (number 12); answer = Err (Mismatch 9) } ∷
    -- `sum(i in R) a`
    record { form = aggregate 0 (i_in 4 (whole (name 9 (codes "R")))) (name 12 (codes "a")); answer = Err (Mismatch 0) } ∷
    -- `sum(i in R : x = i) 1`
    record { form = aggregate 0 (those_of (more_groups (patterns.Single (the 4 (codes "i")) ∷ []) (whole (name 9 (codes "R"))) no_groups) (related 13 (name 13 (codes "x")) relations.Equal (name 17 (codes "i")))) (number 20); answer = Err (NotData 13) } ∷
    -- `sum(i in R : i) 1`
    record { form = aggregate 0 (those_of (more_groups (patterns.Single (the 4 (codes "i")) ∷ []) (whole (name 9 (codes "R"))) no_groups) (name 13 (codes "i"))) (number 16); answer = Err (Mismatch 13) } ∷
    -- `sum(<i,j> in ss) i`
    record { form = aggregate 0 (all_of (more_groups (patterns.Record 4 (the 5 (codes "i")) (the 7 (codes "j") ∷ []) ∷ []) (whole (name 13 (codes "ss"))) no_groups)) (name 17 (codes "i")); answer = Ok (int ∷ (set (structure 2)) ∷ int ∷ []) } ∷
    -- `sum(<i,j> in si) i`
    record { form = aggregate 0 (all_of (more_groups (patterns.Record 4 (the 5 (codes "i")) (the 7 (codes "j") ∷ []) ∷ []) (whole (name 13 (codes "si"))) no_groups)) (name 17 (codes "i")); answer = Err (Mismatch 4) } ∷
    -- `sum(<i> in ss) 1`
    record { form = aggregate 0 (all_of (more_groups (patterns.Record 4 (the 5 (codes "i")) [] ∷ []) (whole (name 11 (codes "ss"))) no_groups)) (number 15); answer = Err (Mismatch 4) } ∷
    -- `card(R)`
    record { form = cardinality 0 (name 5 (codes "R")); answer = Ok (int ∷ (index int) ∷ []) } ∷
    -- `card(1)`
    record { form = cardinality 0 (number 5); answer = Err (Mismatch 0) } ∷
    -- `card(d)`
    record { form = cardinality 0 (name 5 (codes "d")); answer = Err (Mismatch 0) } ∷
    -- `alldifferent(q)`
    record { form = all_different 0 (name 13 (codes "q")); answer = Ok (bool ∷ (ints int) ∷ []) } ∷
    -- `alldifferent(sr)`
    record { form = all_different 0 (name 13 (codes "sr")); answer = Err (Mismatch 0) } ∷
    -- `alldifferent(ss)`
    record { form = all_different 0 (name 13 (codes "ss")); answer = Err (Mismatch 0) } ∷
    -- `d[1]`
    record { form = subscripted 0 (name 0 (codes "d")) (forms_of ((number 2) ∷ [])); answer = Ok (int ∷ (ints int) ∷ int ∷ []) } ∷
    -- `d[x]`
    record { form = subscripted 0 (name 0 (codes "d")) (forms_of ((name 2 (codes "x")) ∷ [])); answer = Ok (int ∷ (ints int) ∷ int ∷ []) } ∷
    -- `d[1,2]`
    record { form = subscripted 0 (name 0 (codes "d")) (forms_of ((number 2) ∷ (number 4) ∷ [])); answer = Err (Mismatch 0) } ∷
    -- `d[a]`
    record { form = subscripted 0 (name 0 (codes "d")) (forms_of ((name 2 (codes "a")) ∷ [])); answer = Err (Mismatch 0) } ∷
    -- `d[(1 < 2)]`
    record { form = subscripted 0 (name 0 (codes "d")) (forms_of ((bracket 2 (related 3 (number 3) relations.Less (number 7))) ∷ [])); answer = Err (Mismatch 0) } ∷
    -- `sr[x]`: a record is no element to choose
    record { form = subscripted 0 (name 0 (codes "sr")) (forms_of ((name 3 (codes "x")) ∷ [])); answer = Err (Mismatch 0) } ∷
    -- `k[1]`
    record { form = subscripted 0 (name 0 (codes "k")) (forms_of ((number 2) ∷ [])); answer = Err (Mismatch 0) } ∷
    -- `sr[1].f`
    record { form = field 0 (subscripted 0 (name 0 (codes "sr")) (forms_of ((number 3) ∷ []))) (the 6 (codes "f")); answer = Ok (int ∷ (structure 2) ∷ (ints (structure 2)) ∷ int ∷ []) } ∷
    -- `sr[1].z`
    record { form = field 0 (subscripted 0 (name 0 (codes "sr")) (forms_of ((number 3) ∷ []))) (the 6 (codes "z")); answer = Err (Unknown 6) } ∷
    -- `k.f`
    record { form = field 0 (name 0 (codes "k")) (the 2 (codes "f")); answer = Err (Mismatch 0) } ∷
    -- `<1,a>.f`
    record { form = field 0 (tuple 0 (forms_of ((number 1) ∷ (name 3 (codes "a")) ∷ []))) (the 6 (codes "f")); answer = Err (Mismatch 0) } ∷
    -- `ac.end`
    record { form = field 0 (name 0 (codes "ac")) (the 3 (codes "end")); answer = Ok (int ∷ activity ∷ []) } ∷
    -- `ac.f`
    record { form = field 0 (name 0 (codes "ac")) (the 3 (codes "f")); answer = Err (Unknown 3) } ∷
    -- `cs.end`
    record { form = field 0 (name 0 (codes "cs")) (the 3 (codes "end")); answer = Err (Mismatch 0) } ∷
    -- `<1,a>`
    record { form = tuple 0 (forms_of ((number 1) ∷ (name 3 (codes "a")) ∷ [])); answer = Ok ((row (sorts_of (int ∷ (enumeration 1) ∷ []))) ∷ int ∷ (enumeration 1) ∷ []) } ∷
    -- `<1,x>`
    record { form = tuple 0 (forms_of ((number 1) ∷ (name 3 (codes "x")) ∷ [])); answer = Err (NotData 0) } ∷
    -- `<1,R>`
    record { form = tuple 0 (forms_of ((number 1) ∷ (name 3 (codes "R")) ∷ [])); answer = Err (Mismatch 0) } ∷
    -- `<x,R>`: a variable is told before a type that does not fit
    record { form = tuple 0 (forms_of ((name 1 (codes "x")) ∷ (name 3 (codes "R")) ∷ [])); answer = Err (NotData 0) } ∷
    -- `{}`
    record { form = listed 0 (forms_of []); answer = Ok (empty_set ∷ []) } ∷
    -- `{1,2}`
    record { form = listed 0 (forms_of ((number 1) ∷ (number 3) ∷ [])); answer = Ok ((set int) ∷ int ∷ int ∷ []) } ∷
    -- `{<1,{}>,<2,{3}>}`
    record { form = listed 0 (forms_of ((tuple 1 (forms_of ((number 2) ∷ (listed 4 (forms_of [])) ∷ []))) ∷ (tuple 8 (forms_of ((number 9) ∷ (listed 11 (forms_of ((number 12) ∷ []))) ∷ []))) ∷ [])); answer = Ok ((set (row (sorts_of (int ∷ (set int) ∷ [])))) ∷ (row (sorts_of (int ∷ empty_set ∷ []))) ∷ int ∷ empty_set ∷ (row (sorts_of (int ∷ (set int) ∷ []))) ∷ int ∷ (set int) ∷ int ∷ []) } ∷
    -- `{1,a}`
    record { form = listed 0 (forms_of ((number 1) ∷ (name 3 (codes "a")) ∷ [])); answer = Err (Mismatch 0) } ∷
    -- `{1,x}`
    record { form = listed 0 (forms_of ((number 1) ∷ (name 3 (codes "x")) ∷ [])); answer = Err (NotData 0) } ∷
    -- `{d}`
    record { form = listed 0 (forms_of ((name 1 (codes "d")) ∷ [])); answer = Err (Mismatch 0) } ∷
    -- `{i | i in R}`
    record { form = described 0 (name 1 (codes "i")) (i_in 5 (whole (name 10 (codes "R")))); answer = Ok ((set int) ∷ int ∷ (index int) ∷ []) } ∷
    -- `{x | i in R}`
    record { form = described 0 (name 1 (codes "x")) (i_in 5 (whole (name 10 (codes "R")))); answer = Err (NotData 0) } ∷
    -- `{d | i in R}`
    record { form = described 0 (name 1 (codes "d")) (i_in 5 (whole (name 10 (codes "R")))); answer = Err (Mismatch 0) } ∷
    -- `{z | i in k}`: what stands first is told first
    record { form = described 0 (name 1 (codes "z")) (i_in 5 (whole (name 10 (codes "k")))); answer = Err (Unknown 1) } ∷
    -- `{i | i in k}`
    record { form = described 0 (name 1 (codes "i")) (i_in 5 (whole (name 10 (codes "k")))); answer = Err (Mismatch 10) } ∷
    -- `[1]`, where no initial value stands
    record { form = cells 0 (forms_of ((number 1) ∷ [])); answer = Err (Mismatch 0) } ∷
    -- `[z]`
    record { form = cells 0 (forms_of ((name 1 (codes "z")) ∷ [])); answer = Err (Unknown 1) } ∷
    -- `#[1:x]#`
    record { form = keyed_cells 0 (pairs_of (record { key = number 2; cell = name 4 (codes "x") } ∷ [])); answer = Err (Mismatch 0) } ∷
    -- `dmin(x)`, outside of the search section
    record { form = question 0 questions.Least (name 5 (codes "x")); answer = Err (Mismatch 0) } ∷
    []

search_examples : List Example
search_examples =
    -- `dmin(x)`
    record { form = question 0 questions.Least (name 5 (codes "x")); answer = Ok (int ∷ int ∷ []) } ∷
    -- `bound(q[1])`
    record { form = question 0 questions.Bound (subscripted 6 (name 6 (codes "q")) (forms_of ((number 8) ∷ []))); answer = Ok (bool ∷ int ∷ (ints int) ∷ int ∷ []) } ∷
    -- `dsize((ac.start))`
    record { form = question 0 questions.Size (bracket 6 (field 7 (name 7 (codes "ac")) (the 10 (codes "start")))); answer = Ok (int ∷ int ∷ int ∷ activity ∷ []) } ∷
    -- `dmax(q)`
    record { form = question 0 questions.Greatest (name 5 (codes "q")); answer = Err (Mismatch 0) } ∷
    -- `dmin(q[x])`
    record { form = question 0 questions.Least (subscripted 5 (name 5 (codes "q")) (forms_of ((name 7 (codes "x")) ∷ []))); answer = Err (Mismatch 0) } ∷
    -- `dmin(ac.end)`
    record { form = question 0 questions.Least (field 5 (name 5 (codes "ac")) (the 8 (codes "end"))); answer = Err (Mismatch 0) } ∷
    -- `dmin(d[1])`
    record { form = question 0 questions.Least (subscripted 5 (name 5 (codes "d")) (forms_of ((number 7) ∷ []))); answer = Err (Mismatch 0) } ∷
    -- `dmin(x) in R`: membership takes data, also here
    record { form = member 0 (question 0 questions.Least (name 5 (codes "x"))) (whole (name 11 (codes "R"))); answer = Err (NotData 0) } ∷
    -- `sum(i in R : bound(x)) 1: only statements ask in their conditions`
    record { form = aggregate 0 (those_of (more_groups (patterns.Single (the 4 (codes "i")) ∷ []) (whole (name 9 (codes "R"))) no_groups) (question 13 questions.Bound (name 19 (codes "x")))) (number 23); answer = Err (NotData 13) } ∷
    []

each_is_so : map (λ e. outside e.form) examples ≡ map (λ e. e.answer) examples
unfolding sc examples typing typed_parts typed_pairs typed_set open_groups open_params settled lookup declared fields field_sorts fit_one_struct fresh all_fresh
each_is_so = refl

each_search_is_so : map (λ e. inside e.form) search_examples ≡ map (λ e. e.answer) search_examples
unfolding sc search_examples typing typed_parts typed_pairs typed_set open_groups open_params settled lookup declared fields field_sorts fit_one_struct fresh all_fresh
each_search_is_so = refl
