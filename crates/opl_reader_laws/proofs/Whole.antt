-- The tree of tokens and the reader of the whole: each is the other. For any grammar, by the type of its trees, their marks and
-- the laws of its reader.
use Rattle.std.proofs.Common.{◌≡◌, ℕ, suc, ◌+◌, max, ◌<◌, ◌≤◌, Bool, true, false, ◌⊎◌, inl, inr, List, [], ◌∷◌, ◌++◌, length, Option, Some, None, Ok, Err, refl, sym, ap, ◌∙◌, subst, arith, append_assoc, append-nil}
use Rattle.std.specs.Option.{option_map}
use Rattle.opl_token.specs.declared.sign.Sign.TheVariants.{OpenBrace}
use Rattle.opl_token.specs.declared.token.Kind.{Kind}
use Rattle.opl_token.specs.declared.token.Kind.TheVariants as kinds_are
use Rattle.opl_token.specs.declared.token.Token.{Token}
use Rattle.opl_tree.specs.Keywords.{keyword_text}
use Rattle.opl_tree.specs.Marks.{Part, Mark, Marks}
use Rattle.opl_tree.specs.Reading.{kinds, place_of}
use Rattle.opl_tree.specs.Spelling.{kind_of, kinds_of, first_part, AllProper}
use Rattle.opl_grammar.specs.Input.{Input, Stop, syntax, too_deep, Outcome, Parser, kind, next, look, is_sign, first_kind}
use Rattle.opl_grammar.specs.Input.{place as place_at}
use Rattle.opl_tree.specs.Depth.{depth_of}
use Rattle.opl_tree.specs.Marks as mk
use Rattle.opl_reader_laws.specs.Reading as rd
use Rattle.opl_reader_laws.specs.Reading.{AtPlaces}
use Rattle.opl_reader_laws.proofs.Forms.{plain}
use Rattle.opl_reader_laws.proofs.Levels.{Fits, fits_of, depth_fits, fits_or_beyond, Beyond, beyond_at, beyond_found}
use Rattle.opl_reader_laws.proofs.Outcomes.{ok_not_err}
use Rattle.opl_reader_laws.proofs.Phrases.{Shape, Accepts, Faults, Fails, nests_too_deep, Law}
use Rattle.opl_tree.proofs.Spelt.{kinds_of-append}
use Rattle.opl_reader_laws.proofs.Takes.{IsUnbraced, Takes, Begins, begins_split, begins_join, is_deep, Last, Position}
use Rattle.opl_reader_laws.proofs.Tokens.{look_sign, sees_sign_true}

abbrev pub start : List Token → ℕ → Input
start tokens end = record { tokens = tokens; end = end }

pub first_same : {X : Type 0} {x y : X} {xs ys : List X} → x ∷ xs ≡ y ∷ ys → x ≡ y
first_same h = cc

pub rest_same : {X : Type 0} {x y : X} {xs ys : List X} → x ∷ xs ≡ y ∷ ys → xs ≡ ys
rest_same h = cc

some_none : {X : Type 0} {x : X} → ◌≡◌ {A = Option X} (Some x) None → ⊥
some_none h = cc

kind_same : {x y : Kind} → ◌≡◌ {A = Option Kind} (Some x) (Some y) → x ≡ y
kind_same h = cc

cons_same : {X : Type 0} {x y : X} {xs ys : List X} → x ≡ y → xs ≡ ys → x ∷ xs ≡ y ∷ ys
cons_same h k = cc

-- ---- marks that are written by all tokens

-- the first token that marks write is the first of the tokens
first_of : (ms : List Mark) (ts : List Token) (o : Option Part) → first_part ms ≡ o → kinds_of ms ≡ kinds ts → first_kind ts ≡ option_map kind_of o
first_of [] [] o h k = ap (option_map kind_of) h
first_of [] (t ∷ ts) o h k = cc
first_of (mk.place at ∷ ms) ts o h k = first_of ms ts o h k
first_of (mk.token p ∷ ms) [] o h k = cc
first_of (mk.token p ∷ ms) (t ∷ ts) o h k = ap Some (sym (first_same k)) ∙ ap (option_map kind_of) h
first_of (mk.unbraced ∷ ms) ts o h k = first_of ms ts o h k
first_of (mk.opens n ∷ ms) ts o h k = first_of ms ts o h k

brace_only : (p : Part) → is_sign OpenBrace (Some (kind_of p)) ≡ true → p ≡ mk.sign OpenBrace
brace_only (mk.sign s) h = ap mk.sign (kind_sign (look_sign (Some (kinds_are.Sign s)) OpenBrace (sees_sign_true OpenBrace (look (Some (kinds_are.Sign s))) h))) where
  kind_sign : Some (kinds_are.Sign s) ≡ Some (kinds_are.Sign OpenBrace) → s ≡ OpenBrace
  kind_sign h = cc
brace_only (mk.word w) h = absurd (no_brace (keyword_text w) h) where
  no_brace : (v : List ℕ) → is_sign OpenBrace (Some (kinds_are.Word v)) ≡ true → ⊥
  no_brace v h = word_kind (look_sign (Some (kinds_are.Word v)) OpenBrace (sees_sign_true OpenBrace (look (Some (kinds_are.Word v))) h)) where
    word_kind : Some (kinds_are.Word v) ≡ Some (kinds_are.Sign OpenBrace) → ⊥
    word_kind h = cc
brace_only (mk.name v) h = absurd (word_kind (look_sign (Some (kinds_are.Word v)) OpenBrace (sees_sign_true OpenBrace (look (Some (kinds_are.Word v))) h))) where
  word_kind : Some (kinds_are.Word v) ≡ Some (kinds_are.Sign OpenBrace) → ⊥
  word_kind h = cc
brace_only (mk.any v) h = absurd (word_kind (look_sign (Some (kinds_are.Word v)) OpenBrace (sees_sign_true OpenBrace (look (Some (kinds_are.Word v))) h))) where
  word_kind : Some (kinds_are.Word v) ≡ Some (kinds_are.Sign OpenBrace) → ⊥
  word_kind h = cc
brace_only (mk.number n) h = absurd (number_kind (look_sign (Some (kinds_are.Number n)) OpenBrace (sees_sign_true OpenBrace (look (Some (kinds_are.Number n))) h))) where
  number_kind : Some (kinds_are.Number n) ≡ Some (kinds_are.Sign OpenBrace) → ⊥
  number_kind h = cc

no_brace_first : (o : Option Part) → (o ≡ Some (mk.sign OpenBrace) → ⊥) → is_sign OpenBrace (option_map kind_of o) ≡ false
no_brace_first None h = refl
no_brace_first (Some p) h = by_test (is_sign OpenBrace (Some (kind_of p))) refl where
  by_test : (b : Bool) → is_sign OpenBrace (Some (kind_of p)) ≡ b → b ≡ false
  by_test true e = absurd (h (ap Some (brace_only p e)))
  by_test false e = refl

bare_first : (ms : List Mark) (ts : List Token) → (first_part ms ≡ Some (mk.sign OpenBrace) → ⊥) → kinds_of ms ≡ kinds ts → IsUnbraced (first_kind ts)
bare_first ms ts h k = ap (is_sign OpenBrace) (first_of ms ts (first_part ms) refl k) ∙ no_brace_first (first_part ms) h

pub takes_all : (ms : List Mark) (ts : List Token) (end : ℕ) → AllProper ms → kinds_of ms ≡ kinds ts → AtPlaces ms ts end → Takes ms (start ts end) (start [] end)
takes_all [] [] end p k h = refl
takes_all [] (t ∷ ts) end p k h = cc
takes_all (mk.place at ∷ ms) ts end p k h = (sym h.0, takes_all ms ts end p k h.1)
takes_all (mk.token q ∷ ms) [] end p k h = cc
takes_all (mk.token q ∷ ms) (t ∷ ts) end p k h = ((ap Some (sym (first_same k)), p.0), takes_all ms ts end p.1 (rest_same k) h)
takes_all (mk.unbraced ∷ ms) ts end p k h = (bare_first ms ts p.0 k, takes_all ms ts end p.1 k h)
takes_all (mk.opens n ∷ ms) ts end p k h = takes_all ms ts end p k h

begins_all : (ms : List Mark) (ts : List Token) (end : ℕ) → AllProper ms → kinds_of ms ≡ kinds ts → Begins ms (start ts end) (start [] end)
begins_all [] [] end p k = refl
begins_all [] (t ∷ ts) end p k = cc
begins_all (mk.place at ∷ ms) ts end p k = begins_all ms ts end p k
begins_all (mk.token q ∷ ms) [] end p k = cc
begins_all (mk.token q ∷ ms) (t ∷ ts) end p k = ((ap Some (sym (first_same k)), p.0), begins_all ms ts end p.1 (rest_same k))
begins_all (mk.unbraced ∷ ms) ts end p k = (bare_first ms ts p.0 k, begins_all ms ts end p.1 k)
begins_all (mk.opens n ∷ ms) ts end p k = begins_all ms ts end p k

-- what all tokens write
record Wrote (ms : List Mark) (ts : List Token) (end : ℕ) : Type 0 where
  formed : AllProper ms
  spelt : kinds_of ms ≡ kinds ts
  placed : AtPlaces ms ts end

nothing_left : (ts : List Token) (end : ℕ) (j : Input) → start ts end ≡ j → kind j ≡ None → ts ≡ []
nothing_left [] end j e h = refl
nothing_left (t ∷ ts) end j e h = let some : Some t.kind ≡ kind j = ap kind e in absurd (some_none (some ∙ h))

not_brace : (ms : List Mark) (i j : Input) → Takes ms i j → IsUnbraced (kind i) → first_part ms ≡ Some (mk.sign OpenBrace) → ⊥
not_brace [] i j t u h = cc
not_brace (mk.place at ∷ ms) i j t u h = not_brace ms i j t.1 u h
not_brace (mk.token q ∷ ms) i j t u h = true_false (sym (ap (is_sign OpenBrace) (t.0.0 ∙ ap (option_map kind_of) h)) ∙ u) where
  true_false : true ≡ false → ⊥
  true_false h = cc
not_brace (mk.unbraced ∷ ms) i j t u h = not_brace ms i j t.1 u h
not_brace (mk.opens n ∷ ms) i j t u h = not_brace ms i j t u h

all_taken : (ms : List Mark) (ts : List Token) (end : ℕ) (j : Input) → Takes ms (start ts end) j → kind j ≡ None → Wrote ms ts end
all_taken [] ts end j t h = let e = nothing_left ts end j t h in record { formed = tt; spelt = ap kinds (sym e); placed = tt }
all_taken (mk.place at ∷ ms) ts end j t h =
    let r = all_taken ms ts end j t.1 h in record { formed = r.formed; spelt = r.spelt; placed = (sym t.0, r.placed) }
all_taken (mk.token q ∷ ms) [] end j t h = absurd (some_none (sym t.0.0))
all_taken (mk.token q ∷ ms) (u ∷ ts) end j t h =
    let r = all_taken ms ts end j t.1 h in
    record { formed = (t.0.1, r.formed); spelt = cons_same (sym (kind_same t.0.0)) r.spelt; placed = r.placed }
all_taken (mk.unbraced ∷ ms) ts end j t h =
    let r = all_taken ms ts end j t.1 h in
    record { formed = (not_brace ms (start ts end) j t.1 t.0, r.formed); spelt = r.spelt; placed = r.placed }
all_taken (mk.opens n ∷ ms) ts end j t h = let r = all_taken ms ts end j t h in record { formed = r.formed; spelt = r.spelt; placed = r.placed }

-- ---- marks and beginnings of the tokens

-- the tokens that were read, and those that are left
pub record Cut (ms : List Mark) (ts : List Token) (j : Input) : Type 0 where
  pub front : List Token
  pub is : ts ≡ front ++ j.tokens
  pub same : kinds front ≡ kinds_of ms

begins_cut : (ms : List Mark) (ts : List Token) (end : ℕ) (j : Input) → Begins ms (start ts end) j → Cut ms ts j
begins_cut [] ts end j b = record { front = []; is = ap (λ (i : Input). i.tokens) b; same = refl }
begins_cut (mk.place at ∷ ms) ts end j b = let c = begins_cut ms ts end j b in record { front = c.front; is = c.is; same = c.same }
begins_cut (mk.token p ∷ ms) [] end j b = absurd (some_none (sym b.0.0))
begins_cut (mk.token p ∷ ms) (t ∷ ts) end j b =
    let c = begins_cut ms ts end j b.1 in
    record { front = t ∷ c.front; is = ap (λ xs. t ∷ xs) c.is; same = cons_same (kind_same b.0.0) c.same }
begins_cut (mk.unbraced ∷ ms) ts end j b = let c = begins_cut ms ts end j b.1 in record { front = c.front; is = c.is; same = c.same }
begins_cut (mk.opens n ∷ ms) ts end j b = let c = begins_cut ms ts end j b in record { front = c.front; is = c.is; same = c.same }

begins_end : (ms : List Mark) (i j : Input) → Begins ms i j → j.end ≡ i.end
begins_end [] i j b = sym (ap (λ (x : Input). x.end) b)
begins_end (mk.place at ∷ ms) i j b = begins_end ms i j b
begins_end (mk.token p ∷ ms) i j b = begins_end ms (next i) j b.1
begins_end (mk.unbraced ∷ ms) i j b = begins_end ms i j b.1
begins_end (mk.opens n ∷ ms) i j b = begins_end ms i j b

-- tokens that go on alike begin with the same token
same_at : (ms : List Mark) (i j : Input) (ts : List Token) (ks : List Kind) → Begins ms i j → kinds ts ≡ kinds_of ms ++ ks → ((us : List Token) → kinds us ≡ ks → first_kind us ≡ kind j) → first_kind ts ≡ kind i
same_at [] i j ts ks b e c = c ts e ∙ sym (ap kind b)
same_at (mk.place at ∷ ms) i j ts ks b e c = same_at ms i j ts ks b e c
same_at (mk.token p ∷ ms) i j [] ks b e c = cc
same_at (mk.token p ∷ ms) i j (t ∷ ts) ks b e c = ap Some (first_same e) ∙ sym b.0.0
same_at (mk.unbraced ∷ ms) i j ts ks b e c = same_at ms i j ts ks b.1 e c
same_at (mk.opens n ∷ ms) i j ts ks b e c = same_at ms i j ts ks b e c

-- other tokens that begin with the same kinds
record Again (ms : List Mark) (ks : List Kind) (i : Input) : Type 0 where
  mid : Input
  begins : Begins ms i mid
  rest : kinds mid.tokens ≡ ks

begins_again : (ms : List Mark) (i j : Input) (ts : List Token) (end : ℕ) (ks : List Kind) → Begins ms i j → kinds ts ≡ kinds_of ms ++ ks → ((us : List Token) → kinds us ≡ ks → first_kind us ≡ kind j) → Again ms ks (start ts end)
begins_again [] i j ts end ks b e c = record { mid = start ts end; begins = refl; rest = e }
begins_again (mk.place at ∷ ms) i j ts end ks b e c = let r = begins_again ms i j ts end ks b e c in record { mid = r.mid; begins = r.begins; rest = r.rest }
begins_again (mk.token p ∷ ms) i j [] end ks b e c = cc
begins_again (mk.token p ∷ ms) i j (t ∷ ts) end ks b e c =
    let r = begins_again ms (next i) j ts end ks b.1 (rest_same e) c in
    record { mid = r.mid; begins = ((ap Some (first_same e), b.0.1), r.begins); rest = r.rest }
begins_again (mk.unbraced ∷ ms) i j ts end ks b e c =
    let r = begins_again ms i j ts end ks b.1 e c in
    record { mid = r.mid; begins = (ap (is_sign OpenBrace) (same_at ms i j ts ks b.1 e c) ∙ b.0, r.begins); rest = r.rest }
begins_again (mk.opens n ∷ ms) i j ts end ks b e c = let r = begins_again ms i j ts end ks b e c in record { mid = r.mid; begins = r.begins; rest = r.rest }

first_of_none : (ts : List Token) → kinds ts ≡ [] → first_kind ts ≡ None
first_of_none [] h = refl
first_of_none (t ∷ ts) h = cc

first_of_some : (ts : List Token) (k : Kind) (ks : List Kind) → kinds ts ≡ k ∷ ks → first_kind ts ≡ Some k
first_of_some [] k ks h = cc
first_of_some (t ∷ ts) k ks h = ap Some (first_same h)

pub kinds-append : (xs ys : List Token) → kinds (xs ++ ys) ≡ kinds xs ++ kinds ys
kinds-append [] ys = refl
kinds-append (x ∷ xs) ys = ap (λ ks. x.kind ∷ ks) (kinds-append xs ys)

begins_functional : (ms : List Mark) (i j l : Input) → Begins ms i j → Begins ms i l → j ≡ l
begins_functional [] i j l h k = sym h ∙ k
begins_functional (mk.place at ∷ ms) i j l h k = begins_functional ms i j l h k
begins_functional (mk.token p ∷ ms) i j l h k = begins_functional ms (next i) j l h.1 k.1
begins_functional (mk.unbraced ∷ ms) i j l h k = begins_functional ms i j l h.1 k.1
begins_functional (mk.opens n ∷ ms) i j l h k = begins_functional ms i j l h k

-- ---- tokens of these kinds, each at the place of its number

numbered : ℕ → List Kind → List Token
numbered n [] = []
numbered n (k ∷ ks) = record { kind = k; at = n } ∷ numbered (suc n) ks

numbered_kinds : (n : ℕ) (ks : List Kind) → kinds (numbered n ks) ≡ ks
unfolding numbered
numbered_kinds n [] = refl
numbered_kinds n (k ∷ ks) = ap (λ ls. k ∷ ls) (numbered_kinds (suc n) ks)

-- so a place tells how many tokens stand before it
numbered_place : (n : ℕ) (ks : List Kind) (front ts : List Token) → numbered n ks ≡ front ++ ts → place_of ts (n + length ks) ≡ n + length front
unfolding numbered
numbered_place n [] [] [] e = omega arith
numbered_place n [] [] (t ∷ ts) e = cc
numbered_place n [] (u ∷ us) ts e = cc
numbered_place n (k ∷ ks) [] [] e = cc
numbered_place n (k ∷ ks) [] (t ∷ ts) e = let s : n ≡ t.at = ap (λ (x : Token). x.at) (first_same e) in omega arith
numbered_place n (k ∷ ks) (u ∷ us) ts e =
    let r = numbered_place (suc n) ks us ts (rest_same e) in
    let a : suc n + length ks ≡ n + length (k ∷ ks) = omega arith in
    subst (λ x. place_of ts x ≡ n + length (u ∷ us)) a (r ∙ omega arith)

place_in : (ks : List Kind) (front ts : List Token) → numbered 0 ks ≡ front ++ ts → place_of ts (length ks) ≡ length front
place_in ks front ts e =
    let a : 0 + length ks ≡ length ks = omega arith in
    subst (λ x. place_of ts x ≡ length front) a (numbered_place 0 ks front ts e ∙ omega arith)

-- the numbered tokens cut at one of them
record NumberedCut (ks : List Kind) (k : Kind) (ts : List Token) : Type 0 where
  before : List Token
  at : Token
  back : List Token
  is : ts ≡ before ++ at ∷ back
  same : kinds before ≡ ks
  kind : at.kind ≡ k

numbered_cut : (n : ℕ) (ks : List Kind) (k : Kind) (ls : List Kind) → NumberedCut ks k (numbered n (ks ++ k ∷ ls))
unfolding numbered
numbered_cut n [] k ls = record { before = []; at = record { kind = k; at = n }; back = numbered (suc n) ls; is = refl; same = refl; kind = refl }
numbered_cut n (x ∷ ks) k ls =
    let c = numbered_cut (suc n) ks k ls in
    record { before = record { kind = x; at = n } ∷ c.before; at = c.at; back = c.back; is = ap (λ ts. record { kind = x; at = n } ∷ ts) c.is; same = ap (λ ls. x ∷ ls) c.same; kind = c.kind }

-- two beginnings of one list with as many tokens are the same
record SameCut (front other : List Token) (back behind : List Token) : Type 0 where
  fronts : front ≡ other
  backs : back ≡ behind

same_cut : (front back other behind : List Token) → front ++ back ≡ other ++ behind → length front ≡ length other → SameCut front other back behind
same_cut [] back [] behind e l = record { fronts = refl; backs = e }
same_cut [] back (u ∷ other) behind e l = absurd (omega arith)
same_cut (u ∷ front) back [] behind e l = absurd (omega arith)
same_cut (u ∷ front) back (v ∷ other) behind e l =
    let c = same_cut front back other behind (rest_same e) (omega arith) in
    record { fronts = cons_same (first_same e) c.fronts; backs = c.backs }

length_kinds : (ts : List Token) → length (kinds ts) ≡ length ts
length_kinds [] = refl
length_kinds (t ∷ ts) = ap suc (length_kinds ts)

last_kinds : (xs ys : List Kind) (k l : Kind) → xs ++ k ∷ [] ≡ ys ++ l ∷ [] → (xs ≡ ys) × (k ≡ l)
last_kinds [] [] k l e = (refl, first_same e)
last_kinds [] (y ∷ []) k l e = cc
last_kinds [] (y ∷ (z ∷ ys)) k l e = cc
last_kinds (x ∷ []) [] k l e = cc
last_kinds (x ∷ (z ∷ xs)) [] k l e = cc
last_kinds (x ∷ xs) (y ∷ ys) k l e = let r = last_kinds xs ys k l (rest_same e) in (cons_same (first_same e) r.0, r.1)

same_head : (xs : List Kind) (y z : Kind) (us vs : List Kind) → xs ++ y ∷ us ≡ xs ++ z ∷ vs → y ≡ z
same_head [] y z us vs e = first_same e
same_head (x ∷ xs) y z us vs e = same_head xs y z us vs (rest_same e)

same_tail : (xs ys zs : List Kind) → xs ++ ys ≡ xs ++ zs → ys ≡ zs
same_tail [] ys zs e = e
same_tail (x ∷ xs) ys zs e = same_tail xs ys zs (rest_same e)

same_length : (xs ys : List Token) → kinds xs ≡ kinds ys → length xs ≡ length ys
same_length xs ys e = sym (length_kinds xs) ∙ (ap (λ ks. length ks) e ∙ length_kinds ys)

-- ---- the last token of a front

record LastAt (front : List Mark) (ts : List Token) (at : ℕ) : Type 0 where
  before : List Token
  opener : Token
  back : List Token
  is : ts ≡ before ++ opener ∷ back
  same : kinds_of front ≡ kinds before ++ opener.kind ∷ []
  placed : at ≡ opener.at

last_at : (front : List Mark) (ts : List Token) (end : ℕ) (stop : Input) (at : ℕ) → Begins front (start ts end) stop → Last front (start ts end) at → LastAt front ts at
last_at front ts end stop at b l =
    let w = begins_split l.before (mk.token l.part ∷ []) (start ts end) stop (subst (λ ms. Begins ms (start ts end) stop) l.is b) in
    let same = begins_functional l.before (start ts end) w.mid l.mid w.front l.begins in
    by_tokens l.mid (begins_cut l.before ts end l.mid l.begins) l.mid.tokens refl (ap kind (sym same) ∙ w.back.0.0) l.place where
      by_tokens : (mid : Input) → Cut l.before ts mid → (us : List Token) → mid.tokens ≡ us → kind mid ≡ Some (kind_of l.part) → at ≡ place_at mid → LastAt front ts at
      by_tokens mid c [] e k p = absurd (some_none (sym k ∙ ap first_kind e))
      by_tokens mid c (u ∷ us) e k p =
          let last : kind_of l.part ≡ u.kind = kind_same (sym k ∙ ap first_kind e) in
          record {
            before = c.front;
            opener = u;
            back = us;
            is = c.is ∙ ap (λ xs. c.front ++ xs) e;
            same = ap kinds_of l.is ∙ (kinds_of-append l.before (mk.token l.part ∷ []) ∙ (ap (λ ks. ks ++ kind_of l.part ∷ []) (sym c.same) ∙ ap (λ x. kinds c.front ++ x ∷ []) last));
            placed = p ∙ ap (λ xs. place_of xs mid.end) e;
          }

-- it is the token that stands behind the same kinds
placed_at : (front : List Mark) (ts : List Token) (at : ℕ) (e : LastAt front ts at) (xs ys : List Token) (t : Token) → ts ≡ xs ++ t ∷ ys → kinds_of front ≡ kinds xs ++ t.kind ∷ [] → at ≡ t.at
placed_at front ts at e xs ys t is same =
    let ends = last_kinds (kinds e.before) (kinds xs) e.opener.kind t.kind (sym e.same ∙ same) in
    let z = same_cut e.before (e.opener ∷ e.back) xs (t ∷ ys) (sym e.is ∙ is) (same_length e.before xs ends.0) in
    e.placed ∙ ap (λ (x : Token). x.at) (first_same z.backs)

-- tokens that begin with the kinds of a front begin with it
record Beginning (front : List Mark) (ts : List Token) (end : ℕ) : Type 0 where
  stop : Input
  begins : Begins front (start ts end) stop

last_again : (front : List Mark) (i stop : Input) (at : ℕ) → Begins front i stop → Last front i at → (ts : List Token) (end : ℕ) (ks : List Kind) → kinds ts ≡ kinds_of front ++ ks → Beginning front ts end
last_again front i stop at b l ts end ks e =
    let w = begins_split l.before (mk.token l.part ∷ []) i stop (subst (λ ms. Begins ms i stop) l.is b) in
    let same = begins_functional l.before i w.mid l.mid w.front l.begins in
    let spelt : kinds ts ≡ kinds_of l.before ++ kind_of l.part ∷ ks = e ∙ (ap (λ ms. kinds_of ms ++ ks) l.is ∙ (ap (λ xs. xs ++ ks) (kinds_of-append l.before (mk.token l.part ∷ [])) ∙ append_assoc (kinds_of l.before) (kind_of l.part ∷ []) ks)) in
    let r = begins_again l.before i l.mid ts end (kind_of l.part ∷ ks) l.begins spelt (λ us h. first_of_some us (kind_of l.part) ks h ∙ sym (ap kind (sym same) ∙ w.back.0.0)) in
    let one : Begins (mk.token l.part ∷ []) r.mid (next r.mid) = ((first_of_some r.mid.tokens (kind_of l.part) ks r.rest, w.back.0.1), refl) in
    record { stop = next r.mid; begins = subst (λ ms. Begins ms (start ts end) (next r.mid)) (sym l.is) (begins_join l.before (mk.token l.part ∷ []) (start ts end) r.mid (next r.mid) r.begins one) }

-- another stop of a level too many
record Deep (front : List Mark) (j m : Input) {A : Type 0} (o : Outcome A) : Type 0 where
  at : ℕ
  is : o ≡ Err (too_deep at)
  last : Last front j at

deep_of : {A : Type 0} (at : ℕ) (front : List Mark) (j m : Input) (o : Outcome A) → Faults (too_deep at) front j m o → Deep front j m o
deep_of {A} at front j m o f = by_fault f.fault f.is f.like f.position where
  by_fault : (e : Stop) → o ≡ Err e → is_deep e ≡ true → Position e front j m → Deep front j m o
  by_fault (syntax x) h d p = cc
  by_fault (too_deep x) h d p = record { at = x; is = h; last = p }

pub deep_one : {A : Type 0} {x y : ℕ} → ◌≡◌ {A = Outcome A} (Err (too_deep x)) (Err (too_deep y)) → x ≡ y
deep_one h = cc

deep_not_syntax : {A : Type 0} {x y : ℕ} → ◌≡◌ {A = Outcome A} (Err (too_deep x)) (Err (syntax y)) → ⊥
deep_not_syntax h = cc

-- ---- a grammar: its trees, their marks, and the reader of a whole text, where so many levels may be opened

abbrev pub whole_shape : {T : Type 0} → (T → Marks) → ((Option Kind → Type 0) → Option Kind → Type 0) → Shape T
whole_shape marks begins = plain marks (λ k. k ≡ None) begins

-- the laws of its reader, which reads to the end
pub record Grammar {T : Type 0} (marks : T → Marks) (begins : (Option Kind → Type 0) → Option Kind → Type 0) (read : ℕ → Parser T) : Type 1 where
  pub law : (n k : ℕ) → n ≤ k → Law n (read n) (read k) (whole_shape marks begins)
  pub ends : (n : ℕ) (i : Input) (t : T) (j : Input) → read n i ≡ Ok (t, j) → kind j ≡ None

module _ {T : Type 0} (marks : T → Marks) (begins : (Option Kind → Type 0) → Option Kind → Type 0) (read : ℕ → Parser T) (G : Grammar marks begins read) where
  own : (n : ℕ) → Law n (read n) (read n) (whole_shape marks begins)
  own n = G.law n n (omega arith)

  -- ---- trees

  pub whole_reads : (n : ℕ) (tokens : List Token) (end : ℕ) (t : T) → rd.IsTreeOf marks t tokens end → Fits n (marks t) → read n (start tokens end) ≡ Ok (t, start [] end)
  whole_reads n tokens end t h d = (own n).good.complete (start tokens end) t (start [] end) tt d (takes_all (marks t) tokens end h.formed h.spelt h.placed) refl

  pub whole_ok : (n : ℕ) (tokens : List Token) (end : ℕ) (t : T) (j : Input) → read n (start tokens end) ≡ Ok (t, j) → rd.IsTreeOf marks t tokens end × Fits n (marks t)
  whole_ok n tokens end t j h =
      let s = (own n).good.sound (start tokens end) t j h in
      let w = all_taken (marks t) tokens end j s.takes (G.ends n (start tokens end) t j h) in
      (record { formed = w.formed; spelt = w.spelt; placed = w.placed }, s.deep)

  -- a well-formed tree is spelt as numbered tokens
  spelt_begins : (t : T) → AllProper (marks t) → Begins (marks t) (start (numbered 0 (kinds_of (marks t))) (length (kinds_of (marks t)))) (start [] (length (kinds_of (marks t))))
  spelt_begins t h = begins_all (marks t) (numbered 0 (kinds_of (marks t))) (length (kinds_of (marks t))) h (sym (numbered_kinds 0 (kinds_of (marks t))))

  abbrev spelt : T → Input
  spelt t = start (numbered 0 (kinds_of (marks t))) (length (kinds_of (marks t)))

  respelt : (n : ℕ) (t : T) → AllProper (marks t) → Fits n (marks t) → Accepts (read n) (whole_shape marks begins) t (spelt t) (start [] (length (kinds_of (marks t))))
  respelt n t h d = (own n).good.accepts (spelt t) t (start [] (length (kinds_of (marks t)))) tt d (spelt_begins t h) refl

  -- and if a token does not fit, there is no such tree
  no_tree : (n : ℕ) (t : T) (at : ℕ) (front : List Mark) (m : Input) → AllProper (marks t) → Faults (syntax at) front (spelt t) m (read n (spelt t)) → ⊥
  no_tree n t at front m formed f =
      let k = max n (depth_of (marks t)) in
      let same = (G.law n k (omega arith)).more (spelt t) (ap (λ o. nests_too_deep o) f.is ∙ f.like) in
      ok_not_err (sym (respelt k t formed (fits_of k (marks t) (omega arith))).is ∙ (sym same ∙ f.is))

  -- ---- a level too many

  -- where the first token stands that opens one
  deep_there : (n : ℕ) (t : T) (at : ℕ) → AllProper (marks t) → Beyond n (marks t) (spelt t) at → read n (spelt t) ≡ Err (too_deep at)
  deep_there n t at formed g = (own n).good.opening (spelt t) t (start [] (length (kinds_of (marks t)))) at tt (spelt_begins t formed) refl g

  -- the tokens before the place of one of the numbered tokens
  before_place : (t : T) (front : List Mark) (mid : Input) → Begins front (spelt t) mid → (c : Cut front (numbered 0 (kinds_of (marks t))) mid) → place_at mid ≡ length c.front
  before_place t front mid b c =
      subst (λ x. place_of mid.tokens x ≡ length c.front) (sym (begins_end front (spelt t) mid b)) (place_in (kinds_of (marks t)) c.front mid.tokens c.is)

  -- the tree of an opening is spelt so
  pub opened_spelt : (n : ℕ) (tokens : List Token) (at : ℕ) (o : rd.OpensAt marks n tokens at) → kinds_of (marks o.tree) ≡ kinds o.front ++ o.opener.kind ∷ o.rest
  opened_spelt n tokens at o = ap kinds_of o.opened ∙ (kinds_of-append o.before (mk.opens o.number ∷ o.behind) ∙ (ap (λ xs. xs ++ kinds_of o.behind) o.same ∙ ap (λ xs. kinds o.front ++ xs) o.next))

  -- the stop over the tree's own tokens, and the last token of its front, tell the stop over these
  opens_reads_at : (n : ℕ) (tokens : List Token) (end at : ℕ) (o : rd.OpensAt marks n tokens at) (mid : Input) → Begins o.before (spelt o.tree) mid → (f : Fails n (read n) (whole_shape marks begins) (spelt o.tree) (too_deep (place_at mid))) →
      LastAt f.front (numbered 0 (kinds_of (marks o.tree))) (place_at mid) → read n (start tokens end) ≡ Err (too_deep at)
  opens_reads_at n tokens end at o mid b f a =
      let ks = kinds_of (marks o.tree) in
      let c = begins_cut o.before (numbered 0 ks) (length ks) mid b in
      let first : place_at mid ≡ length c.front = before_place o.tree o.before mid b c in
      let second : a.opener.at ≡ length a.before = place_in ks a.before (a.opener ∷ a.back) a.is in
      let s = same_cut c.front mid.tokens a.before (a.opener ∷ a.back) (sym c.is ∙ a.is) (sym first ∙ (a.placed ∙ second)) in
      let fronts : kinds a.before ≡ kinds o.front = ap kinds (sym s.fronts) ∙ (c.same ∙ o.same) in
      let spelling : (kinds a.before ++ a.opener.kind ∷ kinds a.back) ≡ kinds o.front ++ (o.opener.kind ∷ o.rest) =
      sym (kinds-append a.before (a.opener ∷ a.back)) ∙ (ap kinds (sym a.is) ∙ (numbered_kinds 0 ks ∙ opened_spelt n tokens at o)) in
      let openers : a.opener.kind ≡ o.opener.kind = same_head (kinds o.front) a.opener.kind o.opener.kind (kinds a.back) o.rest (ap (λ xs. xs ++ a.opener.kind ∷ kinds a.back) (sym fronts) ∙ spelling) in
      let whole : kinds_of f.front ≡ kinds o.front ++ o.opener.kind ∷ [] = a.same ∙ (ap (λ xs. xs ++ a.opener.kind ∷ []) fronts ∙ ap (λ x. kinds o.front ++ x ∷ []) openers) in
      let all : kinds tokens ≡ kinds_of f.front ++ kinds o.back = ap kinds o.parts ∙ (kinds-append o.front (o.opener ∷ o.back) ∙ (sym (append_assoc (kinds o.front) (o.opener.kind ∷ []) (kinds o.back)) ∙ ap (λ xs. xs ++ kinds o.back) (sym whole))) in
      let g = last_again f.front (spelt o.tree) f.stop (place_at mid) f.begins f.position tokens end (kinds o.back) all in
      let d = deep_of (place_at mid) f.front (start tokens end) g.stop (read n (start tokens end)) (f.again (start tokens end) g.stop g.begins tt) in
      let e = last_at f.front tokens end g.stop d.at g.begins d.last in
      d.is ∙ ap (λ x. Err (too_deep x)) (placed_at f.front tokens d.at e o.front o.back o.opener o.parts whole ∙ sym o.placed)

  -- where the first token opens a level too many, the reader stops
  pub opens_reads : (n : ℕ) (tokens : List Token) (end at : ℕ) → rd.OpensAt marks n tokens at → read n (start tokens end) ≡ Err (too_deep at)
  opens_reads n tokens end at o =
      let w = begins_split o.before (mk.opens o.number ∷ o.behind) (spelt o.tree) (start [] (length (kinds_of (marks o.tree)))) (subst (λ ms. Begins ms (spelt o.tree) (start [] (length (kinds_of (marks o.tree))))) o.opened (spelt_begins o.tree o.formed)) in
      let g = subst (λ ms. Beyond n ms (spelt o.tree) (place_at w.mid)) (sym o.opened) (beyond_at n o.number o.before o.behind (spelt o.tree) w.mid (fits_of n o.before o.first) o.too_many w.front) in
      let f = (own n).fails (spelt o.tree) (too_deep (place_at w.mid)) (deep_there n o.tree (place_at w.mid) o.formed g) in
      opens_reads_at n tokens end at o w.mid w.front f (last_at f.front (numbered 0 (kinds_of (marks o.tree))) (length (kinds_of (marks o.tree))) f.stop (place_at w.mid) f.begins f.position)

  -- ---- where it stops so, the token opens a level too many

  -- the tree that is sure to begin with the front of the stop
  module _ (n : ℕ) (tokens : List Token) (end at : ℕ) (f : Fails n (read n) (whole_shape marks begins) (start tokens end) (too_deep at)) (t : T) (formed : AllProper (marks t)) (rest : List Kind) (is : kinds_of (marks t) ≡ kinds_of f.front ++ rest) where
    front_spelt : Beginning f.front (numbered 0 (kinds_of (marks t))) (length (kinds_of (marks t)))
    front_spelt = last_again f.front (start tokens end) f.stop at f.begins f.position (numbered 0 (kinds_of (marks t))) (length (kinds_of (marks t))) rest (numbered_kinds 0 (kinds_of (marks t)) ∙ is)

    deep_spelt : Deep f.front (spelt t) front_spelt.stop (read n (spelt t))
    deep_spelt = deep_of at f.front (spelt t) front_spelt.stop (read n (spelt t)) (f.again (spelt t) front_spelt.stop front_spelt.begins tt)

    opens_of : (x : ℕ) → Beyond n (marks t) (spelt t) x → rd.OpensAt marks n tokens at
    opens_of x g =
        let ks = kinds_of (marks t) in
        let u = beyond_found n (marks t) (spelt t) (start [] (length ks)) x (spelt_begins t formed) g in
        let a = last_at f.front (numbered 0 ks) (length ks) front_spelt.stop deep_spelt.at front_spelt.begins deep_spelt.last in
        let b = last_at f.front tokens end f.stop at f.begins f.position in
        let c = begins_cut u.before (numbered 0 ks) (length ks) u.mid u.begins in
        let first : place_at u.mid ≡ length c.front = before_place t u.before u.mid u.begins c in
        let second : a.opener.at ≡ length a.before = place_in ks a.before (a.opener ∷ a.back) a.is in
        let same : x ≡ deep_spelt.at = deep_one (sym (deep_there n t x formed g) ∙ deep_spelt.is) in
        let s = same_cut c.front u.mid.tokens a.before (a.opener ∷ a.back) (sym c.is ∙ a.is) (sym first ∙ (sym u.place ∙ (same ∙ (a.placed ∙ second)))) in
        let l = last_kinds (kinds b.before) (kinds a.before) b.opener.kind a.opener.kind (sym b.same ∙ a.same) in
        let fronts : kinds_of u.before ≡ kinds b.before = sym c.same ∙ (ap kinds s.fronts ∙ sym l.0) in
        let spelling : kinds b.before ++ kinds_of u.behind ≡ kinds b.before ++ (b.opener.kind ∷ kinds a.back) =
        ap (λ xs. xs ++ kinds_of u.behind) (sym fronts) ∙ (sym (kinds_of-append u.before (mk.opens u.number ∷ u.behind)) ∙ (ap kinds_of (sym u.is) ∙ (sym (numbered_kinds 0 ks) ∙ (ap kinds a.is ∙ (kinds-append a.before (a.opener ∷ a.back) ∙ (ap (λ xs. xs ++ a.opener.kind ∷ kinds a.back) (sym l.0) ∙ ap (λ k. kinds b.before ++ k ∷ kinds a.back) (sym l.1))))))) in
        record {
          front = b.before;
          opener = b.opener;
          back = b.back;
          parts = b.is;
          placed = b.placed;
          tree = t;
          formed = formed;
          before = u.before;
          number = u.number;
          behind = u.behind;
          opened = u.is;
          same = fronts;
          rest = kinds a.back;
          next = same_tail (kinds b.before) (kinds_of u.behind) (b.opener.kind ∷ kinds a.back) spelling;
          too_many = u.too_many;
          first = depth_fits n u.before u.fits;
        }

    opens_there : Fits n (marks t) ⊎ ((x : ℕ) × Beyond n (marks t) (spelt t) x) → rd.OpensAt marks n tokens at
    opens_there (inl h) = absurd (ok_not_err (sym (respelt n t formed h).is ∙ deep_spelt.is))
    opens_there (inr x) = opens_of x.0 x.1

  pub whole_opens : (n : ℕ) (tokens : List Token) (end at : ℕ) → read n (start tokens end) ≡ Err (too_deep at) → rd.OpensAt marks n tokens at
  whole_opens n tokens end at h =
      let f = (own n).fails (start tokens end) (too_deep at) h in
      let v = f.viable (start [] 0) refl in
      let w = all_taken (marks v.value) v.whole.tokens v.whole.end (start [] 0) v.takes refl in
      let d = begins_cut f.front v.whole.tokens v.whole.end v.mid v.begins in
      let is : kinds_of (marks v.value) ≡ kinds_of f.front ++ kinds v.mid.tokens = w.spelt ∙ (ap kinds d.is ∙ (kinds-append d.front v.mid.tokens ∙ ap (λ ks. ks ++ kinds v.mid.tokens) d.same)) in
      opens_there n tokens end at f v.value w.formed (kinds v.mid.tokens) is (fits_or_beyond n (marks v.value) (spelt v.value))

  -- ---- a token that does not fit

  module _ (n : ℕ) (tokens : List Token) (end at : ℕ) (f : Fails n (read n) (whole_shape marks begins) (start tokens end) (syntax at)) (c : Cut f.front tokens f.stop) where
    front_viable : rd.IsViable marks (kinds c.front)
    front_viable =
        let v = f.viable (start [] 0) refl in
        let w = all_taken (marks v.value) v.whole.tokens v.whole.end (start [] 0) v.takes refl in
        let d = begins_cut f.front v.whole.tokens v.whole.end v.mid v.begins in
        record {
          tree = v.value;
          formed = w.formed;
          rest = kinds v.mid.tokens;
          begins = w.spelt ∙ (ap kinds d.is ∙ (kinds-append d.front v.mid.tokens ∙ ap (λ ks. ks ++ kinds v.mid.tokens) (d.same ∙ sym c.same)));
        }

    -- no well-formed tree's spelling begins so and goes on with the same token
    none_so : (t : T) (ks : List Kind) → AllProper (marks t) → kinds_of (marks t) ≡ kinds c.front ++ ks → ((us : List Token) → kinds us ≡ ks → first_kind us ≡ kind f.stop) → ⊥
    none_so t ks formed h next =
        let r = begins_again f.front (start tokens end) f.stop (numbered 0 (kinds_of (marks t))) (length (kinds_of (marks t))) ks f.begins (numbered_kinds 0 (kinds_of (marks t)) ∙ (h ∙ ap (λ xs. xs ++ ks) c.same)) next in
        no_tree n t at f.front r.mid formed (f.again (spelt t) r.mid r.begins (next r.mid.tokens r.rest))

    stop_at : (back : List Token) → f.stop.tokens ≡ back → rd.Stops marks c.front back end at
    stop_at [] h = (
      (λ t formed k. none_so t [] formed (k ∙ sym (append-nil (kinds c.front))) (λ us l. first_of_none us l ∙ sym (ap first_kind h))),
      f.position ∙ (ap (λ ts. place_of ts f.stop.end) h ∙ begins_end f.front (start tokens end) f.stop f.begins),
    )
    stop_at (u ∷ us) h = (
      (λ v. none_so v.tree (u.kind ∷ v.rest) v.formed (v.begins ∙ append_assoc (kinds c.front) (u.kind ∷ []) v.rest) (λ xs l. first_of_some xs u.kind v.rest l ∙ sym (ap first_kind h))),
      f.position ∙ ap (λ ts. place_of ts f.stop.end) h,
    )

    stops_there : rd.StopsAt marks tokens end at
    stops_there = record { front = c.front; back = f.stop.tokens; parts = c.is; viable = front_viable; stop = stop_at f.stop.tokens refl }

  pub whole_stops : (n : ℕ) (tokens : List Token) (end at : ℕ) → read n (start tokens end) ≡ Err (syntax at) → rd.StopsAt marks tokens end at × rd.NoneOpens marks n tokens
  whole_stops n tokens end at h =
      let f = (own n).fails (start tokens end) (syntax at) h in
      (stops_there n tokens end at f (begins_cut f.front tokens end f.stop f.begins), (λ x o. deep_not_syntax (sym (opens_reads n tokens end x o) ∙ h)))

  -- ---- what one tree opens, all open

  -- in the tree, the token behind this beginning is the first that opens a level beyond the n-th
  pub record FirstOpens (n : ℕ) (front : List Kind) (t : T) : Type 0 where
    pub before : Marks
    pub number : ℕ
    pub behind : Marks
    pub opened : marks t ≡ before ++ mk.opens number ∷ behind
    pub same : kinds_of before ≡ front
    pub too_many : n < number
    pub first : depth_of before ≤ n

  -- a tree that begins like another with the token that opens a level too many
  pub every_opens : (n : ℕ) (front : List Kind) (k : Kind) (rest others : List Kind) (t u : T) → AllProper (marks t) → AllProper (marks u) → kinds_of (marks t) ≡ front ++ k ∷ rest → kinds_of (marks u) ≡ front ++ k ∷ others → FirstOpens n front t → FirstOpens n front u
  every_opens n front k rest others t u formed there h e o =
      let ks = kinds_of (marks u) in
      let c = numbered_cut 0 front k others in
      let parts : numbered 0 ks ≡ c.before ++ c.at ∷ c.back = ap (numbered 0) e ∙ c.is in
      let begins : kinds c.before ++ kinds_of o.behind ≡ kinds c.before ++ (k ∷ rest) =
      ap (λ xs. xs ++ kinds_of o.behind) (c.same ∙ sym o.same) ∙ (sym (kinds_of-append o.before (mk.opens o.number ∷ o.behind)) ∙ (ap kinds_of (sym o.opened) ∙ (h ∙ ap (λ xs. xs ++ k ∷ rest) (sym c.same)))) in
      let there_too : rd.OpensAt marks n (numbered 0 ks) c.at.at = record {
        front = c.before;
        opener = c.at;
        back = c.back;
        parts = parts;
        placed = refl;
        tree = t;
        formed = formed;
        before = o.before;
        number = o.number;
        behind = o.behind;
        opened = o.opened;
        same = o.same ∙ sym c.same;
        rest = rest;
        next = same_tail (kinds c.before) (kinds_of o.behind) (k ∷ rest) begins ∙ ap (λ x. x ∷ rest) (sym c.kind);
        too_many = o.too_many;
        first = o.first;
      } in
      let stops = opens_reads n (numbered 0 ks) (length ks) c.at.at there_too in
      by_levels c.at.at (place_in ks c.before (c.at ∷ c.back) parts ∙ (sym (length_kinds c.before) ∙ ap (λ xs. length xs) c.same)) stops (fits_or_beyond n (marks u) (spelt u))
    where
      of_found : (x : ℕ) → x ≡ length front → (y : ℕ) → x ≡ y → Beyond n (marks u) (spelt u) y → FirstOpens n front u
      of_found x place y same g =
          let f = beyond_found n (marks u) (spelt u) (start [] (length (kinds_of (marks u)))) y (spelt_begins u there) g in
          let c = begins_cut f.before (numbered 0 (kinds_of (marks u))) (length (kinds_of (marks u))) f.mid f.begins in
          let d = numbered_cut 0 front k others in
          let parts : numbered 0 (kinds_of (marks u)) ≡ d.before ++ d.at ∷ d.back = ap (numbered 0) e ∙ d.is in
          let long : length c.front ≡ length d.before = sym (before_place u f.before f.mid f.begins c) ∙ (sym f.place ∙ (sym same ∙ (place ∙ (ap (λ xs. length xs) (sym d.same) ∙ length_kinds d.before)))) in
          let s = same_cut c.front f.mid.tokens d.before (d.at ∷ d.back) (sym c.is ∙ parts) long in
          record { before = f.before; number = f.number; behind = f.behind; opened = f.is; same = sym c.same ∙ (ap kinds s.fronts ∙ d.same); too_many = f.too_many; first = depth_fits n f.before f.fits }

      by_levels : (x : ℕ) → x ≡ length front → read n (spelt u) ≡ Err (too_deep x) → Fits n (marks u) ⊎ ((y : ℕ) × Beyond n (marks u) (spelt u) y) → FirstOpens n front u
      by_levels x place stops (inl f) = absurd (ok_not_err (sym (respelt n u there f).is ∙ stops))
      by_levels x place stops (inr y) = of_found x place y.0 (deep_one (sym stops ∙ deep_there n u y.0 there y.1)) y.1
