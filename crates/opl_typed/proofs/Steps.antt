-- Steps of typing that were passed, and expressions that meet their places.
use Rattle.std.proofs.Common.{◌≡◌, Bool, true, false, ◌&&◌, ◌||◌, not, List, [], ◌∷◌, map, Ok, Err, refl, ap, subst}
use Rattle.std.specs.List.{list_any, list_all}
use Rattle.opl_type_rules.specs.declared.fault.TypeFault.{TypeFault}
use Rattle.opl_type_rules.specs.declared.fault.TypeFault.TheVariants.{Mismatch, NotData}
use Rattle.opl_type_rules.specs.Types.{Sort}
use Rattle.opl_type_rules.specs.Scope.{Checked, and_then, unless}
use Rattle.opl_type_rules.specs.Expressions.{Node, Need, is_met, settled, used, all_sorts}
use Rattle.opl_type_rules.specs.Expressions as typing
use Rattle.opl_type_rules.specs.Expressions.Need.{nothing, data_alone, data_or_questions}
use Rattle.opl_typed.specs.Relation.{Typed, is_data, IsData, Is, Each, Meets, typed_of}

-- ---- truth values

pub both-true : (a b : Bool) → (a && b) ≡ true → (a ≡ true) × (b ≡ true)
both-true true true h = (refl, refl)
both-true true false h = absurd (cc)
both-true false b h = absurd (cc)

pub true-both : (a b : Bool) → a ≡ true → b ≡ true → (a && b) ≡ true
true-both true true h g = refl
true-both true false h g = absurd (cc)
true-both false b h g = absurd (cc)

pub not-true : (b : Bool) → not b ≡ true → b ≡ false
not-true true h = absurd (cc)
not-true false h = refl

pub true-not : (b : Bool) → b ≡ false → not b ≡ true
true-not true h = absurd (cc)
true-not false h = refl

pub left-true : (a b : Bool) → a ≡ true → (a || b) ≡ true
left-true true b h = refl
left-true false b h = absurd (cc)

pub right-true : (a b : Bool) → b ≡ true → (a || b) ≡ true
right-true true b h = refl
right-true false b h = h

pub by-either : {A : Type 0} (a b : Bool) → (a || b) ≡ true → (a ≡ true → A) → (b ≡ true → A) → A
by-either true b h f g = f refl
by-either false b h f g = g h

-- ---- steps

pub went : {A B : Type 0} (c : Checked A) (f : A → Checked B) (b : B) → and_then c f ≡ Ok b → (a : A) × (c ≡ Ok a) × (f a ≡ Ok b)
went (Ok a) f b h = (a, refl, h)
went (Err e) f b h = absurd (cc)

pub goes : {A B : Type 0} (c : Checked A) (f : A → Checked B) (a : A) → c ≡ Ok a → and_then c f ≡ f a
goes c f a h = ap (λ d. and_then d f) h

pub same_node : (a b : Node) → ◌≡◌ {A = Checked Node} (Ok a) (Ok b) → a ≡ b
same_node a b h = cc

pub passed : (b : Bool) (e : TypeFault) → unless b e ≡ Ok tt → b ≡ true
passed true e h = refl
passed false e h = absurd (cc)

pub unit-ok : (c : Checked (Unit {0})) (u : Unit {0}) → c ≡ Ok u → c ≡ Ok tt
unit-ok c tt h = h

-- ---- expressions in their places

-- an expression meets its own rule
pub record Fine (n : Node) : Type 0 where
  pub takes : (not n.takes_data || typing.is_data n) ≡ true
  pub right : n.is_right ≡ true

pub met-meets : (need : Need) (n : Node) → is_met need n ≡ true → Meets need (typed_of n)
met-meets nothing n h = tt
met-meets data_alone n h = h
met-meets data_or_questions n h = not-true n.decides h

pub meets-met : (need : Need) (n : Node) → Meets need (typed_of n) → is_met need n ≡ true
meets-met nothing n h = refl
meets-met data_alone n h = h
meets-met data_or_questions n h = true-not n.decides h

settled-by : (p q : Bool) (d e : TypeFault) (m n : Node) → and_then (unless p d) (λ _. and_then (unless q e) (λ _. Ok m)) ≡ Ok n → (p ≡ true) × (q ≡ true) × (m ≡ n)
settled-by true true d e m n h = (refl, refl, same_node m n h)
settled-by true false d e m n h = absurd (cc)
settled-by false q d e m n h = absurd (cc)

by-settled : (p q : Bool) (d e : TypeFault) (m : Node) → p ≡ true → q ≡ true → and_then (unless p d) (λ _. and_then (unless q e) (λ _. Ok m)) ≡ Ok m
by-settled true true d e m h g = refl
by-settled true false d e m h g = absurd (cc)
by-settled false q d e m h g = absurd (cc)

pub record Used (need : Need) (takes : Sort → Bool) (n : Node) : Type 0 where
  pub fine : Fine n
  pub meets : Meets need (typed_of n)
  pub taken : takes n.sort ≡ true

used-same : (need : Need) (takes : Sort → Bool) (m n : Node) → used need takes m ≡ Ok n → (m ≡ n) × Used need takes m
unfolding settled
used-same need takes m n h =
    let w = settled-by (is_met need m && (not m.takes_data || typing.is_data m)) (m.is_right && takes m.sort) (NotData m.place) (Mismatch m.place) m n h in
    let p = both-true (is_met need m) (not m.takes_data || typing.is_data m) w.0 in
    let q = both-true m.is_right (takes m.sort) w.1 in
    (w.2, record { fine = record { takes = p.1; right = q.0 }; meets = met-meets need m p.0; taken = q.1 })

-- an expression that is used: typing gives it, and it fits its place
pub was_used : (c : Checked Node) (need : Need) (takes : Sort → Bool) (n : Node) → and_then c (used need takes) ≡ Ok n → (c ≡ Ok n) × Used need takes n
was_used c need takes n h =
    let w = went c (used need takes) n h in
    let u = used-same need takes w.0 n w.2 in
    subst (λ (m : Node). (c ≡ Ok m) × Used need takes m) u.0 (w.1, u.1)

-- and the other way round
pub is_used : (need : Need) (takes : Sort → Bool) (n : Node) → Used need takes n → used need takes n ≡ Ok n
unfolding settled
is_used need takes n u =
    by-settled (is_met need n && (not n.takes_data || typing.is_data n)) (n.is_right && takes n.sort) (NotData n.place) (Mismatch n.place) n
    (true-both (is_met need n) (not n.takes_data || typing.is_data n) (meets-met need n u.meets) u.fine.takes) (true-both n.is_right (takes n.sort) u.fine.right u.taken)

-- ---- several expressions

pub sorts-are : (test : Sort → Bool) (ns : List Node) → all_sorts test ns ≡ true → Each (Is test) (map typed_of ns)
sorts-are test [] h = tt
sorts-are test (n ∷ ns) h = let b = both-true (test n.sort) (all_sorts test ns) h in (b.0, sorts-are test ns b.1)

pub are-sorts : (test : Sort → Bool) (ns : List Node) → Each (Is test) (map typed_of ns) → all_sorts test ns ≡ true
are-sorts test [] h = refl
are-sorts test (n ∷ ns) h = true-both (test n.sort) (all_sorts test ns) h.0 (are-sorts test ns h.1)

pub decides-same : (ns : List Node) → list_any (λ (n : Node). n.decides) ns ≡ list_any (λ (a : Typed). a.decides) (map typed_of ns)
decides-same [] = refl
decides-same (n ∷ ns) = ap (λ b. n.decides || b) (decides-same ns)

pub asks-same : (ns : List Node) → list_any (λ (n : Node). n.asks) ns ≡ list_any (λ (a : Typed). a.asks) (map typed_of ns)
asks-same [] = refl
asks-same (n ∷ ns) = ap (λ b. n.asks || b) (asks-same ns)

pub data-same : (ns : List Node) → list_all typing.is_data ns ≡ list_all is_data (map typed_of ns)
data-same [] = refl
data-same (n ∷ ns) = ap (λ b. typing.is_data n && b) (data-same ns)

pub all-each : (parts : List Typed) → list_all is_data parts ≡ true → Each IsData parts
all-each [] h = tt
all-each (a ∷ parts) h = let b = both-true (is_data a) (list_all is_data parts) h in (b.0, all-each parts b.1)

pub each-all : (parts : List Typed) → Each IsData parts → list_all is_data parts ≡ true
each-all [] h = refl
each-all (a ∷ parts) h = true-both (is_data a) (list_all is_data parts) h.0 (each-all parts h.1)
