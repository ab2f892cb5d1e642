-- Results that may be missing. A result is missing where a part that it needs is.
use Rattle.std.specs.Prelude.{List, [], ◌∷◌, Option, Some, None}

abbrev pub lift1 : {A B : Type 0} → (A → B) → Option A → Option B
lift1 f None = None
lift1 f (Some a) = Some (f a)

abbrev pub bind1 : {A B : Type 0} → (A → Option B) → Option A → Option B
bind1 f None = None
bind1 f (Some a) = f a

abbrev pub lift : {A B C : Type 0} → (A → B → C) → Option A → Option B → Option C
lift f None b = None
lift f (Some a) None = None
lift f (Some a) (Some b) = Some (f a b)

abbrev pub bind : {A B C : Type 0} → (A → B → Option C) → Option A → Option B → Option C
bind f None b = None
bind f (Some a) None = None
bind f (Some a) (Some b) = f a b

-- all of a list, from the right on, with e behind the last
abbrev pub lift_all : {A : Type 0} → (A → A → A) → A → List (Option A) → Option A
lift_all f e [] = Some e
lift_all f e (a ∷ others) = lift f a (lift_all f e others)

-- all of a list that has a first one
abbrev pub lift_more : {A : Type 0} → (A → A → A) → Option A → List (Option A) → Option A
lift_more f a [] = a
lift_more f a (b ∷ others) = lift f a (lift_more f b others)

-- all of a list; missing where the list is empty
abbrev pub lift_some : {A : Type 0} → (A → A → A) → List (Option A) → Option A
lift_some f [] = None
lift_some f (a ∷ others) = lift_more f a others

-- one value and others that may be missing
abbrev pub combined : {A : Type 0} → (A → A → A) → A → Option A → A
combined f a None = a
combined f a (Some b) = f a b

-- all values of a list; missing where the list is empty
abbrev pub joined : {A : Type 0} → (A → A → A) → List A → Option A
joined f [] = None
joined f (a ∷ others) = Some (combined f a (joined f others))

-- all of a list, with a result r behind the last
abbrev pub lift_onto : {A : Type 0} → (A → A → A) → List (Option A) → Option A → Option A
lift_onto f [] r = r
lift_onto f (a ∷ others) r = lift f a (lift_onto f others r)
