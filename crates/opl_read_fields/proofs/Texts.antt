-- In the tree of a text's tokens the names of fields are at the places of tokens, and each declaration has a token.
use Rattle.std.proofs.Common.{◌≡◌, ◌≢◌, ◌<◌, ◌≤◌, inl, ℕ, List, [], ◌∷◌, ◌++◌, length, map, ap, ◌∙◌, arith, length-append}
use Rattle.std.specs.Option.{option_map}
use Rattle.std.proofs.lemmas.List.{length-map}
use Rattle.std.proofs.lemmas.List.Kept.{AllPairs-from_increasing}
use Rattle.opl_token.specs.declared.token.Kind.{Kind}
use Rattle.opl_token.specs.declared.token.Token.{Token}
use Rattle.opl_tree.specs.declared.declaration.DeclTree.{DeclTree}
use Rattle.opl_tree.specs.declared.declaration.DeclTree.TheVariants as decls
use Rattle.opl_tree.specs.declared.model.ModelTree.{ModelTree}
use Rattle.opl_tree.specs.Marks.{Marks, any, joined, marks_activity, marks_data, marks_decl, marks_discrete, marks_enum, marks_instr, marks_model, marks_name, marks_range, marks_schedule, marks_search, marks_struct, marks_type, marks_unary, marks_variable, name, number, opens, place, sign, token, unbraced, word, written}
use Rattle.opl_tree.specs.Reading.{kinds}
use Rattle.opl_tree.specs.Spelling.{kinds_of}
use Rattle.opl_tree.proofs.Spelt.{kinds_of-append}
use Rattle.opl_reader_laws.specs.Reading.{AtPlaces, IsTreeOf}
use Rattle.opl_read_fields.specs.Laws.{NamesOfTextsDiffer}
use Rattle.opl_read_fields.specs.Places.{field_places}
use Rattle.opl_read_fields.proofs.Lists.{Among, among_more, pairs_among}

-- ---- names of fields

same_rest : (k l : Kind) (ks ls : List Kind) → ◌≡◌ {A = List Kind} (k ∷ ks) (l ∷ ls) → ks ≡ ls
same_rest k l ks ls h = cc

none_left : (k : Kind) (ks : List Kind) → ◌≡◌ {A = List Kind} (k ∷ ks) [] → ⊥
none_left k ks h = cc

-- the places of the tokens
abbrev token_places : List Token → List ℕ
token_places ts = map (λ (t : Token). t.at) ts

names_at_tokens : (ms : Marks) (ts : List Token) (end : ℕ) → kinds_of ms ≡ kinds ts → AtPlaces ms ts end → Among (field_places ms) (token_places ts)
names_at_tokens [] ts end h p = tt
names_at_tokens (place at ∷ []) ts end h p = tt
names_at_tokens (place at ∷ place q ∷ ms) ts end h p = names_at_tokens (place q ∷ ms) ts end h p.1
names_at_tokens (place at ∷ unbraced ∷ ms) ts end h p = names_at_tokens ms ts end h p.1
names_at_tokens (place at ∷ opens k ∷ ms) ts end h p = names_at_tokens ms ts end h p.1
names_at_tokens (place at ∷ token (any text) ∷ ms) [] end h p = absurd (none_left _ _ h)
names_at_tokens (place at ∷ token (any text) ∷ ms) (t ∷ ts) end h p = inl (p.0, names_at_tokens ms ts end (same_rest _ _ _ _ h) p.1)
names_at_tokens (place at ∷ token (word w) ∷ ms) ts end h p = names_at_tokens (token (word w) ∷ ms) ts end h p.1
names_at_tokens (place at ∷ token (sign s) ∷ ms) ts end h p = names_at_tokens (token (sign s) ∷ ms) ts end h p.1
names_at_tokens (place at ∷ token (name text) ∷ ms) ts end h p = names_at_tokens (token (name text) ∷ ms) ts end h p.1
names_at_tokens (place at ∷ token (number n) ∷ ms) ts end h p = names_at_tokens (token (number n) ∷ ms) ts end h p.1
names_at_tokens (token q ∷ ms) [] end h p = absurd (none_left _ _ h)
names_at_tokens (token q ∷ ms) (t ∷ ts) end h p = among_more (field_places ms) (token_places ts) t.at (names_at_tokens ms ts end (same_rest _ _ _ _ h) p)
names_at_tokens (unbraced ∷ ms) ts end h p = names_at_tokens ms ts end h p
names_at_tokens (opens k ∷ ms) ts end h p = names_at_tokens ms ts end h p

less_differs : (a b : ℕ) → a < b → a ≢ b
less_differs a b h e = absurd (omega (arith, h, e))

pub names_of_texts_differ : NamesOfTextsDiffer
names_of_texts_differ t tokens end tree rise i j d before below =
    less_differs _ _ (pairs_among (λ a b. a < b) (field_places (marks_model t)) (token_places tokens) (names_at_tokens (marks_model t) tokens end tree.spelt tree.placed) (AllPairs-from_increasing (token_places tokens) rise) i j d before below)

-- ---- declarations

more_tokens : (ms ns : Marks) → 1 ≤ length (kinds_of ns) → 1 ≤ length (kinds_of (ms ++ ns))
more_tokens ms ns h = let e = ap length (kinds_of-append ms ns) ∙ length-append (kinds_of ms) (kinds_of ns) in omega (arith, e, h)

some_token : (t : DeclTree) → 1 ≤ length (kinds_of (marks_decl t))
unfolding marks_decl marks_data marks_range marks_enum marks_struct marks_variable marks_activity marks_unary marks_discrete marks_schedule marks_name
some_token (decls.Data t) = more_tokens (marks_type t.kind) _ (omega arith)
some_token (decls.Range t) = omega arith
some_token (decls.Enumeration t) = omega arith
some_token (decls.Structure t) = omega arith
some_token (decls.Variable t) = omega arith
some_token (decls.Activity t) = omega arith
some_token (decls.Unary t) = omega arith
some_token (decls.Discrete t) = omega arith
some_token (decls.Schedule t) = omega arith

each_some : (ts : List DeclTree) → length ts ≤ length (kinds_of (joined (map marks_decl ts)))
each_some [] = omega arith
each_some (t ∷ ts) =
    let e = ap length (kinds_of-append (marks_decl t) (joined (map marks_decl ts))) ∙ length-append (kinds_of (marks_decl t)) (kinds_of (joined (map marks_decl ts))) in
    omega (arith, e, some_token t, each_some ts)

pub few_declarations : (t : ModelTree) (tokens : List Token) (end : ℕ) → IsTreeOf marks_model t tokens end → length t.decls ≤ length tokens
unfolding marks_model
few_declarations t tokens end tree =
    let rest : Marks = marks_instr t.instr ++ written (option_map marks_search t.search) in
    let e = ap length (kinds_of-append (joined (map marks_decl t.decls)) rest) ∙ length-append (kinds_of (joined (map marks_decl t.decls))) (kinds_of rest) in
    let f = ap length tree.spelt ∙ length-map tokens (λ (t : Token). t.kind) in
    omega (arith, e, f, each_some t.decls)
