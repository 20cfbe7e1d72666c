-- Runs that go by ways: how they are put together, whatever the graph.
use Rattle.std.proofs.Common.{◌≡◌, refl, sym, ap, subst, ◌∙◌, inl, inr, ◌⊎◌, ℕ, List, [], ◌∷◌, ◌++◌}
use Rattle.arc_base.specs.BigStep.{Res, Got, Over, Going, Errs, then_do}
use Rattle.nim_meaning.specs.ActTree as tree
use Rattle.nim_meaning.specs.ActTree.{Act, Out, Turn_over, Back}
use Rattle.nim_meaning.specs.Ways.{Point, Exits, Graph, Behind, Trail, onto}
use Rattle.nim_meaning.specs.State.{State}
use Rattle.nim_meaning.specs.Acts.{Exit, Broke, Continued, Returned, Raised, Outcome, On, Out as LeftBy, Does, onward}
use Rattle.nim_meaning.specs.Acts.{passing}
use Rattle.nim_meaning.specs.Values.{Slot}
use Rattle.nim_meaning.specs.Here.{Calls}
use Rattle.nim_meaning.specs.Runs.{points_of, GoneBy, LeavesBy, StopsBy, GoesBy}

-- ---- what passes no point of a body

-- It goes on with the trail that was there; a run that stops in it has that trail, or stands elsewhere.
abbrev pub PassesNone : {A : Type 0} (elsewhere : List Point → Type 0) (before : List Point) → Res State (Outcome A) → Type 0
PassesNone elsewhere before (Got (On x) s) = s.trail ≡ before
PassesNone elsewhere before (Got (LeftBy way) s) = ⊥
PassesNone elsewhere before (Over status live s) = (s.trail ≡ before) ⊎ elsewhere s.trail
PassesNone elsewhere before (Going s) = (s.trail ≡ before) ⊎ elsewhere s.trail
PassesNone elsewhere before (Errs s) = (s.trail ≡ before) ⊎ elsewhere s.trail

-- so do calls
abbrev pub AreElsewhere : (elsewhere : List Point → Type 0) → Calls → Type 0
AreElsewhere elsewhere calls = (proc : ℕ) (slots : List Slot) (s : State) → PassesNone elsewhere s.trail (calls proc slots s)

-- what it goes on with is known
abbrev pub Answers : {A : Type 0} (H : A → Type 0) → Res State (Outcome A) → Type 0
Answers H (Got (On x) s) = H x
Answers H (Got (LeftBy way) s) = Unit {0}
Answers H (Over status live s) = Unit {0}
Answers H (Going s) = Unit {0}
Answers H (Errs s) = Unit {0}

-- a point was passed
abbrev pub past : Point → State → State
past p s = record s { trail = p ∷ s.trail }

pub record Still {A : Type 0} (elsewhere : List Point → Type 0) (act : Does A) : Type 0 where
  pub at : (s : State) → PassesNone elsewhere s.trail (act s)

-- ---- ways

points_both : (xs ys : List Behind) (t : List Point) → points_of (xs ++ ys) ++ t ≡ points_of xs ++ (points_of ys ++ t)
points_both [] ys t = refl
points_both (a ∷ xs) ys t = ap (λ ps. a.from ∷ ps) (points_both xs ys t)

module _ (E : Graph) where
  trail_both : (xs ys : List Behind) (p m q : Point) → Trail E p ys m → Trail E m xs q → Trail E p (xs ++ ys) q
  trail_both [] ys p m q h g = subst (λ x. Trail E p ys x) (sym g) h
  trail_both (a ∷ xs) ys p m q h g = (g.0, trail_both xs ys p m a.from h g.1)

  pub gone_none : (p : Point) (t : List Point) → GoneBy E p t t p
  gone_none p t = record { way = []; trail = refl; is = refl }

  pub gone_one : (p q : Point) (d : Act) (t : List Point) → E p d q → GoneBy E p t (p ∷ t) q
  gone_one p q d t e = record { way = record { from = p; did = d } ∷ []; trail = refl; is = (e, refl) }

  pub gone_both : (p m q : Point) (t u v : List Point) → GoneBy E p t u m → GoneBy E m u v q → GoneBy E p t v q
  gone_both p m q t u v a b = record {
    way = b.way ++ a.way;
    trail = b.trail ∙ ap (λ ps. points_of b.way ++ ps) a.trail ∙ sym (points_both b.way a.way t);
    is = trail_both b.way a.way p m q a.is b.is;
  }

  module _ (elsewhere : List Point → Type 0) where
    abbrev pub Goes : {A : Type 0} → Point → Exits → List Point → Res State (Outcome A) → Type 0
    Goes p k t r = GoesBy E p k elsewhere t r

    pub stops_both : (p m : Point) (t u v : List Point) → GoneBy E p t u m → StopsBy E m elsewhere u v → StopsBy E p elsewhere t v
    stops_both p m t u v a (inl b) = inl (record { to = b.to; gone = gone_both p m b.to t u v a b.gone })
    stops_both p m t u v a (inr b) = inr b

    pub leaves_both : (p m : Point) (k : Exits) (t u v : List Point) (way : Exit) → GoneBy E p t u m → LeavesBy E m k u v way → LeavesBy E p k t v way
    leaves_both p m k t u v (Broke by) a b = gone_both p m (k (Out by)) t u v a b
    leaves_both p m k t u v (Continued by) a b = gone_both p m (k (Turn_over by)) t u v a b
    leaves_both p m k t u v (Returned by) a b = gone_both p m (k (Back by)) t u v a b
    leaves_both p m k t u v (Raised exception by) a b = b

    -- from further on
    pub goes_on : {A : Type 0} (p m : Point) (k : Exits) (t u : List Point) (r : Res State (Outcome A)) → GoneBy E p t u m → Goes m k u r → Goes p k t r
    goes_on p m k t u (Got (On x) s) a b = gone_both p m (k tree.On) t u s.trail a b
    goes_on p m k t u (Got (LeftBy way) s) a b = leaves_both p m k t u s.trail way a b
    goes_on p m k t u (Over status live s) a b = stops_both p m t u s.trail a b
    goes_on p m k t u (Going s) a b = stops_both p m t u s.trail a b
    goes_on p m k t u (Errs s) a b = stops_both p m t u s.trail a b

    leaves_same : (p : Point) (k l : Exits) (t u : List Point) (way : Exit) → ((f : tree.Flow) → k f ≡ l f) → LeavesBy E p k t u way → LeavesBy E p l t u way
    leaves_same p k l t u (Broke by) h a = subst (λ q. GoneBy E p t u q) (h (Out by)) a
    leaves_same p k l t u (Continued by) h a = subst (λ q. GoneBy E p t u q) (h (Turn_over by)) a
    leaves_same p k l t u (Returned by) h a = subst (λ q. GoneBy E p t u q) (h (Back by)) a
    leaves_same p k l t u (Raised exception by) h a = a

    -- exits that lead to the same points
    pub goes_same : {A : Type 0} (p : Point) (k l : Exits) (t : List Point) (r : Res State (Outcome A)) →
        ((f : tree.Flow) → k f ≡ l f) → Goes p k t r → Goes p l t r
    goes_same p k l t (Got (On x) s) h a = subst (λ q. GoneBy E p t s.trail q) (h tree.On) a
    goes_same p k l t (Got (LeftBy way) s) h a = leaves_same p k l t s.trail way h a
    goes_same p k l t (Over status live s) h a = a
    goes_same p k l t (Going s) h a = a
    goes_same p k l t (Errs s) h a = a

    -- ---- one part, and then another

    pub leaves_from : (p m : Point) (k : Exits) (t u : List Point) (way : Exit) → LeavesBy E p (onto m k) t u way → LeavesBy E p k t u way
    leaves_from p m k t u (Broke by) a = a
    leaves_from p m k t u (Continued by) a = a
    leaves_from p m k t u (Returned by) a = a
    leaves_from p m k t u (Raised exception by) a = a

    pub then_goes : {A B : Type 0} (H : A → Type 0) (p m : Point) (k : Exits) (t : List Point) (r : Res State (Outcome A)) (go : A → Does B) → Answers H r →
        Goes p (onto m k) t r → ((x : A) → H x → (s : State) → Goes m k s.trail (go x s)) → Goes p k t (then_do r (onward go))
    then_goes H p m k t (Got (On x) s) go h a b = goes_on p m k t s.trail (go x s) a (b x h s)
    then_goes H p m k t (Got (LeftBy way) s) go h a b = leaves_from p m k t s.trail way a
    then_goes H p m k t (Over status live s) go h a b = a
    then_goes H p m k t (Going s) go h a b = a
    then_goes H p m k t (Errs s) go h a b = a

    -- ---- what passes no point

    stops_still : (p : Point) (t u : List Point) → (u ≡ t) ⊎ elsewhere u → StopsBy E p elsewhere t u
    stops_still p t u (inl h) = inl (record { to = p; gone = subst (λ v. GoneBy E p t v p) (sym h) (gone_none p t) })
    stops_still p t u (inr h) = inr h

    still_goes : {A : Type 0} (k : Exits) (t : List Point) (r : Res State (Outcome A)) → PassesNone elsewhere t r → Goes (k tree.On) k t r
    still_goes k t (Got (On x) s) a = subst (λ v. GoneBy E (k tree.On) t v (k tree.On)) (sym a) (gone_none (k tree.On) t)
    still_goes k t (Got (LeftBy way) s) a = absurd a
    still_goes k t (Over status live s) a = stops_still (k tree.On) t s.trail a
    still_goes k t (Going s) a = stops_still (k tree.On) t s.trail a
    still_goes k t (Errs s) a = stops_still (k tree.On) t s.trail a

    pub goes_still : {A : Type 0} (k : Exits) (act : Does A) → Still elsewhere act → (s : State) → Goes (k tree.On) k s.trail (act s)
    goes_still k act a s = still_goes k s.trail (act s) (a.at s)

    -- a point, and then what follows
    pub goes_past : {A : Type 0} (p q : Point) (d : Act) (k : Exits) (act : Does A) → E p d q → (s : State) → Goes q k (p ∷ s.trail) (act (past p s)) →
        Goes p k s.trail (passing p act s)
    goes_past p q d k act e s a = goes_on p q k s.trail (p ∷ s.trail) (passing p act s) (gone_one p q d s.trail e) a

    pub past_still : {A : Type 0} (p : Point) (d : Act) (k : Exits) (act : Does A) → E p d (k tree.On) → Still elsewhere act → (s : State) →
        Goes p k s.trail (passing p act s)
    past_still p d k act e a s = goes_past p (k tree.On) d k act e s (goes_still k act a (past p s))
