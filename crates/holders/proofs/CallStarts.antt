-- From what is handed over to a procedure to how its body starts, and from what the body does to what the call gives.
use Rattle.std.proofs.Common.{◌≡◌, refl, sym, ap, subst, ◌∙◌, arith, ℕ, zero, suc, ◌+◌, ◌<◌, ◌≤◌, inl, inr, Bool, true, false, List, [], ◌++◌, length}
use Rattle.std.specs.Prelude.{slice_get, Option, Some}
use Rattle.nim_types.specs.Types.{Ty}
use Rattle.nim_types.specs.Forms.{Form, form_of}
use Rattle.nim_plan.specs.declared.plan.Plan.{Plan}
use Rattle.nim_program.specs.Program.{Param, Body, Proc, Program}
use Rattle.nim_program.specs.Scopes as scopes
use Rattle.nim_program.specs.Scopes.{type_in}
use Rattle.nim_program.specs.Typed.{type_of_place}
use Rattle.nim_program.specs.Traps.{CallDepth}
use Rattle.nim_meaning.specs.Values.{Value, Slot}
use Rattle.nim_meaning.specs.State.{World, State}
use Rattle.nim_meaning.specs.Acts.{Does, say, stop, elsewhere, with_trail}
use Rattle.nim_meaning.specs.Here.{Here, level_of}
use Rattle.nim_meaning.specs.Meaning.{calls, called, entered, entered_body, seen_call, exec_all, frame_of}
use Rattle.holders.specs.Owned.{IsName}
use Rattle.holders.specs.Sure.{Comes}
use Rattle.holders.specs.Territory.{Owner}
use Rattle.holders.specs.Finding.{PlaceOf}
use Rattle.holders.specs.Running.{Region}
use Rattle.holders.specs.Staging.{Stage}
use Rattle.holders.specs.Called.{CameBack, NotRaised, Result}
use Rattle.holders.specs.Asked.{Limits, may_write_at}
use Rattle.holders.specs.Claimed.{NoExit, body_region}
use Rattle.holders.specs.Entering.{own_cells}
use Rattle.holders.specs.Procedures.{form_given, Handing, Returns, globals_before, CallsGive, limits_of, scope_of, here_at, Starts, BodySo}
use Rattle.holders.proofs.FrameChanges.{frame_more, name_more}
use Rattle.holders.proofs.Running.{HasCell}
use Rattle.holders.proofs.Calling.{one_longer}
use Rattle.holders.proofs.Called.{call_comes}
use Rattle.holders.proofs.Coming.{comes_then, comes_weaker, comes_spending, comes_elsewhere}
use Rattle.holders.proofs.Scenes.{place_second, place_kept}
use Rattle.holders.proofs.ScenesOfBodies.{not_true}
use Rattle.holders.proofs.Entering.{enters}
use Rattle.holders.proofs.FrameOfCall.{all_slots, begun, own_at, FromNumber, from_first, stand_there, cells_mine, cells_places, names_not_own, behind_own}
use Rattle.holders.proofs.FrameOfCall.{active_there}
use Rattle.holders.proofs.Spots.{SpotsOf, Within, spot_in, spot_looked, spots_at, spots_two}
use Rattle.holders.proofs.CallBegins.{forms_of, places_of, result_cells, Follow, IfAlone, result_so, spots_so, handed_so, ends_so, result_place, counts_so}

-- what is known of a procedure
pub record ProcSo (program : Program) (p : Proc) (body : Body) : Type 0 where
  pub follows : Follow body.first p.params body.result
  pub room : length (places_of p.params body.result) ≤ body.places
  pub alone : IfAlone program.facts body.result
  pub gives : type_of_place body.result ≡ p.gives

-- the places of a world that stand for the same in one with a frame more
place_more : {os : List Owner} {world : World} {level n : ℕ} {f : Form} {b : Bool} {root : ℕ} (after : World) →
    ((l : _) → IsName world.frames level n l → IsName after.frames level n l) → PlaceOf os world level n f b root → PlaceOf os after level n f b root
place_more after more place = place_kept (λ l name. more l name) place

module _ (program : Program) (named : (proc g : ℕ) → Bool) (kept : List Param → ℕ → Bool) (plan : Plan) (left level proc : ℕ) (p : Proc) (body : Body)
    (known : ProcSo program p body) (gs : List Owner) (slots : List Slot) (world : World)
    (h : Handing program.facts (kept p.params) (named proc) (globals_before program named kept body) p.params gs level slots world) where
  abbrev H : Here
  H = here_at program named kept plan left level body

  abbrev S : scopes.Here
  S = scope_of program named kept p.params body

  abbrev L : Limits
  L = limits_of program named kept proc p.params

  abbrev W : World
  W = begun world program.facts body slots level h.frames

  abbrev Own : ℕ → Bool
  Own = own_at world program.facts body slots level h.frames

  abbrev the_slots : List Slot
  the_slots = all_slots world program.facts body slots level h.frames

  abbrev ms : List Owner
  ms = own_cells level body.first (forms_of program.facts p.params body.result) the_slots

  pub from_there : FromNumber world program.facts body slots level h.frames body.first the_slots
  from_there = from_first world program.facts body slots level h.frames

  abbrev place_spots : SpotsOf program.facts (kept p.params) W level ms gs (places_of p.params body.result) h.count h.top
  place_spots =
      spots_so H (kept p.params) gs h.territory.blocks world h.count body slots h.frames body.first (omega arith) h.arrives known.follows from_there

  abbrev begins : HasCell (ms ++ gs) h.given h.territory.blocks W
  begins =
      enters h.territory (λ b x is. frame_more (frame_of program.facts body slots) is) level h.below body.first
      (handed_so H (kept p.params) gs h.territory.blocks world h.count body slots h.frames known.alone h.arrives)
      (stand_there world program.facts body slots level h.frames body.first the_slots (omega arith) from_there)

  -- ---- what its names stand for

  abbrev Root : (global : Bool) → ℕ → ℕ
  Root false n = spot_in (places_of p.params body.result) place_spots.rs n
  Root true n = length ms + h.names.root n

  place_so : (global : Bool) (n : ℕ) (ty : Ty) → L.seen global n ≡ true → type_in S global n ≡ Some ty →
      PlaceOf (ms ++ gs) W (level_of global H) n (form_of program.facts ty) (may_write_at L global n) (Root global n)
  place_so false n ty seen e = spot_looked n place_spots.spots e
  place_so true n ty seen e =
      place_second ms (place_more W (λ l name. name_more world (frame_of program.facts body slots) name) (h.names.place n ty seen e))

  local_within : (n : ℕ) (ty : Ty) → type_in S false n ≡ Some ty → may_write_at L false n ≡ true → Within (length ms) h.count h.top (Root false n)
  local_within n ty e x =
      spots_at (Within (length ms) h.count h.top) n place_spots.spots place_spots.within e (not_true (kept p.params n) x)

  apart : (n m : ℕ) (ty other : Ty) → type_in S false n ≡ Some ty → may_write_at L false n ≡ true → L.seen true m ≡ true → type_in S true m ≡ Some other →
      Root false n ≡ Root true m → ⊥
  apart n m ty other e x seen f q = by (local_within n ty e x) (h.names.below m other seen f)
    where
      by : Within (length ms) h.count h.top (Root false n) → h.names.root m < h.count → ⊥
      by (inl less) below = omega (arith, less, below, q)
      by (inr w) below = omega (arith, w.0, below, q)

  two_so : (g k : Bool) (n m : ℕ) (ty other : Ty) → L.seen g n ≡ true → L.seen k m ≡ true → type_in S g n ≡ Some ty → type_in S k m ≡ Some other →
      may_write_at L g n ≡ true → may_write_at L k m ≡ true → Root g n ≡ Root k m → (g ≡ k) × (n ≡ m)
  two_so false false n m ty other a b e f x y q =
      (refl, spots_two n m place_spots.spots place_spots.part e f (not_true (kept p.params n) x) (not_true (kept p.params m) y) q)
  two_so true true n m ty other a b e f x y q = (refl, h.names.two n m ty other a b e f (omega (arith, q)))
  two_so false true n m ty other a b e f x y q = absurd (apart n m ty other e x b f q)
  two_so true false n m ty other a b e f x y q = absurd (apart m n other ty f y a e (sym q))

  pub starts_so : Starts H S L body Own Root ms gs W
  starts_so = record {
    territory = begins.territory;
    mine = cells_mine world program.facts body slots level h.frames body.first (forms_of program.facts p.params body.result) the_slots from_there;
    cells = cells_places world program.facts body slots level h.frames body.first (forms_of program.facts p.params body.result) the_slots
        (body.first + length (places_of p.params body.result)) (omega (arith, count_is));
    below = h.below;
    active = active_there world program.facts body slots level h.frames (omega (arith, count_is, known.room));
    deepest = one_longer world.frames (frame_of program.facts body slots) ∙ ap suc h.frames;
    scene = record { place = place_so; two = two_so };
    names = names_not_own world program.facts body slots level h.frames;
    declared = λ n le. behind_own world program.facts body slots level h.frames n (omega (arith, le, count_is));
    result = λ place e.
        result_place H (kept p.params) gs h.territory.blocks world h.count body slots h.frames body.first place e h.arrives known.follows from_there;
  }
    where
      count_is : length the_slots ≡ length (places_of p.params body.result)
      count_is = counts_so H (kept p.params) gs h.territory.blocks world h.count body slots h.frames h.arrives

  -- ---- what the call gives

  abbrev region : Region
  region = body_region level Own (λ n. true)

  pub body_gives : BodySo H S L body → (s : State) → s.world ≡ world →
      Comes (Returns gs p.gives program.facts h.given h.territory.blocks world) NoExit (entered_body program.globals p.params body slots H s)
  unfolding starts_so
  body_gives body_so s e =
      comes_weaker (λ v after. CameBack gs begins.territory.blocks world v after (form_given program.facts p.gives)) (λ way after. ⊥)
      (Returns gs p.gives program.facts h.given h.territory.blocks world) NoExit
      (entered_body program.globals p.params body slots H s)
      (call_comes region gs body.first body.places [] begins.territory.blocks world (frame_of program.facts body slots) H refl h.frames h.below p.params body _
      (ends_so H (kept p.params) gs h.territory.blocks world h.count body slots h.frames [] body.first (omega arith) h.arrives known.follows from_there)
      result_is s e
      (λ now q. subst (λ (w : World). (st : Starts H S L body Own Root ms gs w) →
      Comes (λ u after. Stage region ms gs body.first body.places [] st.territory.blocks w after)
      (λ way after. NotRaised way × Stage region ms gs body.first body.places [] st.territory.blocks w after) (exec_all body.stmts H now)) q
      (λ st. body_so Own Root ms gs now st) starts_so))
      (λ v after back. record { old = begins.territory.blocks; into = begins.from; sum = begins.sum; back = back })
      (λ way after x. x)
    where
      result_is : Result H (result_cells program.facts level body.result) (form_given program.facts p.gives)
      result_is =
          subst (λ t. Result H (result_cells program.facts level body.result) (form_given program.facts t)) known.gives (result_so H body.result refl)

-- ---- all calls, from how many may still be active

module _ (program : Program) (named : (proc g : ℕ) → Bool) (kept : List Param → ℕ → Bool) (plan : Plan) where
  -- what is shown of bodies, where calls give what they should
  pub record BodiesSo : Type 0 where
    pub known : (proc : ℕ) (p : Proc) (body : Body) → slice_get program.procs proc ≡ Some p → p.body ≡ Some body → ProcSo program p body
    pub so : (left level proc : ℕ) (p : Proc) (body : Body) → slice_get program.procs proc ≡ Some p → p.body ≡ Some body →
        CallsGive program named kept (calls program plan left (suc level)) (suc level) →
        BodySo (here_at program named kept plan left level body) (scope_of program named kept p.params body) (limits_of program named kept proc p.params) body

  pub calls_give : BodiesSo → (left level : ℕ) → CallsGive program named kept (calls program plan left level) level
  calls_give bodies zero level proc p body e f gs slots s h =
      comes_spending (stop CallDepth) (Returns gs p.gives program.facts h.given h.territory.blocks s.world) NoExit s (λ now q. tt)
  calls_give bodies (suc left) level proc p body e f gs slots s h =
      comes_spending (elsewhere (act (slice_get program.procs proc))) P NoExit s
      (λ now q. comes_elsewhere (act (slice_get program.procs proc)) P NoExit now
      (subst (λ (o : Option Proc). Comes P NoExit (act o (with_no_trail now))) (sym e)
      (comes_then (say (seen_call p.hook)) (λ u. entered program.globals p.params p.body slots H) (λ u after. after ≡ s.world) P NoExit (with_no_trail now) q
      (λ u last r. subst (λ (o : Option Body). Comes P NoExit (entered program.globals p.params o slots H last)) (sym f)
      (body_gives program named kept plan left level proc p body (bodies.known proc p body e f) gs slots s.world h
      (bodies.so left level proc p body e f (calls_give bodies left (suc level))) last r)))))
    where
      P : Value → World → Type 0
      P = Returns gs p.gives program.facts h.given h.territory.blocks s.world

      H : Body → Here
      H = here_at program named kept plan left level

      act : Option Proc → Does Value
      act o = called program.globals o slots H

      with_no_trail : State → State
      with_no_trail now = with_trail [] now
