-- The rule of the lock: where the value is, and what each token knows of it.
use Rattle.std.specs.Prelude.{◌≡◌, ◌≢◌, ◌⊎◌, ℕ, suc, ◌<◌, List, [], ◌∷◌, ◌++◌, map, true, false, Option, Some, None, ⊤}
use mathlib.Core.Option.{some}
use lib.ListN.{get_elem?}
use Rattle.told_lock.specs.declared.view.ToldToken.{ToldToken}
use Rattle.told_lock.specs.declared.view.Known.{Known}
use Rattle.told_lock.specs.declared.view.Stage.TheVariants.{New, Waiting, Open}

-- P holds of each
abbrev pub Every : {X : Type 0} → (X → Type 0) → List X → Type 0
Every P [] = ⊤
Every P (x ∷ xs) = P x × Every P xs

module _ {T : Type 0} where
  -- the first key, before a value was put in
  abbrev pub opener : Known T
  opener = record { stage = New; own = []; has = None; good = None; chief = true; next = 0; shown = [] }

  -- that key, once the first value waits
  abbrev pub waiting : T → Known T
  waiting x = record {
    stage = Waiting;
    own = [];
    has = Some x;
    good = None;
    chief = true;
    next = 0;
    shown = [];
  }

  -- that key, once it holds the value
  abbrev pub entered : T → Known T
  entered x = record { stage = Open; own = []; has = Some x; good = Some x; chief = true; next = 0; shown = [] }

  -- a key whose tokens joined another's
  abbrev pub gone : Known T
  gone = record { stage = Open; own = []; has = None; good = None; chief = false; next = 0; shown = [] }

  -- the key holds the value, of which that was good
  abbrev pub holding : T → T → Known T → Known T
  holding x good v = record {
    stage = Open;
    own = v.own;
    has = Some x;
    good = Some good;
    chief = v.chief;
    next = v.next;
    shown = v.shown;
  }

  -- it stands for these tokens, and holds nothing
  abbrev pub without : List (ToldToken T) → Known T → Known T
  without own v = record {
    stage = Open;
    own = own;
    has = None;
    good = None;
    chief = v.chief;
    next = v.next;
    shown = v.shown;
  }

  -- a new token: all that it knows is this value
  abbrev pub new_told : ℕ → T → ToldToken T
  new_told n x = record { number = n; found = x; seen = x; last = x }

  -- what a token knows that has seen the value
  abbrev pub saw : T → ToldToken T → ToldToken T
  saw x t = record { number = t.number; found = t.found; seen = x; last = x }

  -- what it knows where it gave the value back, and what it has seen stays
  abbrev pub counted : T → ToldToken T → ToldToken T
  counted x t = record { number = t.number; found = t.found; seen = t.seen; last = x }

  -- the step of each call: of a first sending and a first receiving, and of giving back what was seen or wasn't
  abbrev pub Began : Known T → T → Known T → Type 0
  Began v x w = w ≡ waiting x

  abbrev pub Entered : Known T → T → Known T → Type 0
  Entered v x w = (v.has ≡ Some x) × (w ≡ entered x)

  abbrev pub Saw : Known T → T → Known T → Type 0
  Saw v x w = w ≡ without (map (saw x) v.own) v

  abbrev pub Stayed : Known T → T → Known T → Type 0
  Stayed v x w = w ≡ without (map (counted x) v.own) v

  -- the token that is made, by its number and the value
  abbrev pub told_by : ℕ → Option T → List (ToldToken T)
  told_by n None = []
  told_by n (Some x) = new_told n x ∷ []

  -- the key of a token that is made; the one that makes it then; and one that took another's tokens in
  abbrev pub token_of : Known T → Known T
  token_of v = record {
    stage = Open;
    own = told_by v.next v.has;
    has = None;
    good = None;
    chief = false;
    next = 0;
    shown = [];
  }

  abbrev pub next_of : Known T → Known T
  next_of v = record {
    stage = v.stage;
    own = v.own;
    has = v.has;
    good = v.good;
    chief = v.chief;
    next = suc v.next;
    shown = v.shown;
  }

  abbrev pub both_of : Known T → Known T → Known T
  both_of v w = record {
    stage = v.stage;
    own = v.own ++ w.own;
    has = v.has;
    good = v.good;
    chief = v.chief;
    next = v.next;
    shown = v.shown ++ w.shown;
  }

  -- the values that tokens have seen
  abbrev pub seen_by : List (ToldToken T) → List T
  seen_by own = map (λ t. t.seen) own

  -- the key of a witness that is made: it was shown what the other key's tokens have seen, and all that this was shown
  abbrev pub witness_of : Known T → Known T
  witness_of v = record {
    stage = Open;
    own = [];
    has = None;
    good = None;
    chief = false;
    next = 0;
    shown = seen_by v.own ++ v.shown;
  }

  -- a key that is shown all that another was shown
  abbrev pub shown_of : Known T → Known T → Known T
  shown_of v w = record {
    stage = v.stage;
    own = v.own;
    has = v.has;
    good = v.good;
    chief = v.chief;
    next = v.next;
    shown = v.shown ++ w.shown;
  }

  -- the key holds the value
  pub record Holds (v : Known T) : Type 0 where
    pub stage : v.stage ≡ Open
    pub value : T
    pub has : v.has ≡ Some value

  -- the key that makes tokens, with the value as it was put in
  pub record IsChief (v : Known T) : Type 0 where
    pub stage : v.stage ≡ Open
    pub chief : v.chief ≡ true
    pub value : T
    pub has : v.has ≡ Some value
    pub good : v.good ≡ Some value

module _ {T : Type 0} (Since : ℕ → T → T → Type 0) (Later Ends : T → T → Type 0) where
  -- what a token knows is so of the value, and of what is good of it
  pub record IsTold (x good : T) (t : ToldToken T) : Type 0 where
    pub since : Since t.number t.seen good
    pub last : Later t.last x
    pub found : Later t.found x

  -- of each key
  abbrev pub Each : (ℕ → Known T → Type 0) → List (Known T) → Type 0
  Each F views = (i : ℕ) (v : Known T) → get_elem? views i ≡ some v → F i v

  -- it doesn't hold the value
  abbrev pub IsFree : ℕ → Known T → Type 0
  IsFree i v = v.has ≡ None

  -- one key alone may hold it
  abbrev pub MayHold : ℕ → T → T → ℕ → Known T → Type 0
  MayHold holder x good i v = (v.has ≡ None) ⊎ ((i ≡ holder) × (v.has ≡ Some x) × (v.good ≡ Some good))

  -- the value lies in the channel, or one key holds it
  abbrev pub Place : List T → List (Known T) → T → T → Type 0
  Place items views x good = ((items ≡ x ∷ []) × Each IsFree views)
      ⊎ ((items ≡ []) × ((holder : ℕ) × Each (MayHold holder x good) views))

  -- x may be given back as seen: what any other token knows still holds
  pub record MaySee (v : Known T) (x : T) : Type 0 where
    pub value : T
    pub good : T
    pub stage : v.stage ≡ Open
    pub has : v.has ≡ Some value
    pub was : v.good ≡ Some good
    pub later : Later value x
    pub others : (n : ℕ) → Every (λ t. t.number ≢ n) v.own → Since n good x

  -- x may be given back, where what is good of it is one of which all that any token knows still holds
  pub record MayStay (v : Known T) (x : T) : Type 0 where
    pub value : T
    pub good : T
    pub now : T
    pub stage : v.stage ≡ Open
    pub has : v.has ≡ Some value
    pub was : v.good ≡ Some good
    pub later : Later value x
    pub ends : Ends now x
    pub all : (n : ℕ) → Since n good now

  module _ (Ever : T → T → Type 0) where
    -- What the rule says of one key: each number belongs to one key, and only the first one makes more. All that was
    -- shown to it is so of what is good of the value.
    pub record IsKnown (x good : T) (owner : ℕ → ℕ) (chief top : ℕ) (i : ℕ) (v : Known T) : Type 0 where
      pub opened : v.stage ≡ Open
      pub told : Every (λ t. IsTold x good t × (owner t.number ≡ i) × (t.number < top)) v.own
      pub chief_is : v.chief ≡ true → (i ≡ chief) × (v.next ≡ top)
      pub shown : Every (λ y. Ever y good) v.shown

    -- a lock in use: there is a value, and one that is good; all that any key knows is so of these
    pub record Opened (items : List T) (views : List (Known T)) : Type 0 where
      pub value : T
      pub good : T
      pub owner : ℕ → ℕ
      pub chief : ℕ
      pub top : ℕ
      pub ends : Ends good value
      pub place : Place items views value good
      pub known : Each (IsKnown value good owner chief top) views

    -- the rule: nothing was put in, or the first value waits, or the lock is in use
    abbrev pub Kept : List T → List (Known T) → Type 0
    Kept items views = ((items ≡ []) × (views ≡ opener ∷ []))
        ⊎ (((x : T) × (items ≡ x ∷ []) × (views ≡ waiting x ∷ [])) ⊎ Opened items views)

    -- the lock was taken: all that the key's tokens know, and all that was shown to it, is so of the value
    pub record Took (v : Known T) (x : T) (w : Known T) : Type 0 where
      pub good : T
      pub is : w ≡ holding x good v
      pub ends : Ends good x
      pub told : Every (IsTold x good) v.own
      pub shown : Every (λ y. Ever y good) v.shown

    -- what a key that holds the value learns of it: all that its tokens know, and all that was shown to it, is so
    abbrev pub Sums : Known T → Type 0
    Sums v = (x : T) → v.has ≡ Some x
        → (good : T) × Ends good x × Every (IsTold x good) v.own × Every (λ y. Ever y good) v.shown
