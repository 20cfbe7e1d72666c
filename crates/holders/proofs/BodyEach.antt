-- Loops over a range and over elements, with their heads.
use Rattle.std.proofs.Common.{◌≡◌, refl, sym, subst, ◌∙◌, ℕ, ◌+◌, inl, inr, ◌⊎◌, Bool, true, false, List, [], ◌∷◌, ◌++◌, length, Option}
use Rattle.std.specs.Prelude.{◌&&◌, Some, None}
use Rattle.std.proofs.lemmas.Bool.{false≢true, and_parts}
use Rattle.std.proofs.lemmas.Option.{none-some}
use Rattle.nim_types.specs.Types.{Ty}
use Rattle.nim_types.specs.Forms.{Form, plain, form_of}
use Rattle.nim_types.proofs.ForCallers.{the_form}
use Rattle.nim_program.specs.declared.operation.Use.TheVariants.{Owned}
use Rattle.nim_program.specs.Program.{Path, Variable, Fresh, Field, Element, Deref, Args, NoArg, ByValue, ByPath, Declared, Kind, Count, Each}
use Rattle.nim_program.specs.Program.{type_of, type_at}
use Rattle.nim_program.specs.Folds.{lists, node_numbers, totals}
use Rattle.nim_program.specs.Numbering.{numbers_of}
use Rattle.nim_program.specs.Kinds.{is_int, kind_of, kind_if, is_of, has_length, element_of}
use Rattle.nim_program.specs.Scopes as scopes
use Rattle.nim_program.specs.Scopes.{with_place}
use Rattle.nim_program.specs.Typed.{are_typed, head_fits, is_one}
use Rattle.nim_meaning.specs.ActTree as points
use Rattle.nim_meaning.specs.Ways.{At as Spot}
use Rattle.nim_meaning.specs.Values.{Location, length_of, number_of}
use Rattle.nim_meaning.specs.Marks.{Member}
use Rattle.nim_meaning.specs.State.{World, State}
use Rattle.nim_meaning.specs.Acts.{Does, loop, with_trail, ◌>>=◌}
use Rattle.nim_meaning.specs.Deeds.{carry}
use Rattle.nim_meaning.specs.Deeds as deeds
use Rattle.nim_meaning.specs.Here.{Here, is_hooked, form_for}
use Rattle.nim_meaning.specs.Places.{length_at}
use Rattle.nim_meaning.specs.Aims.{Aim, Ready, Aimed, find}
use Rattle.nim_meaning.specs.Steps.{at_node, waits_in}
use Rattle.nim_meaning.specs.Meaning.{count_turn, each_turn, loop_over, limit, is_fresh, ready_operand, ready_rest, ready_aim}
use Rattle.holders.specs.Sure.{Sure, Comes}
use Rattle.holders.specs.Territory.{Owner}
use Rattle.holders.specs.Finding.{Found, AimsAt, ItemForm, steps_of}
use Rattle.holders.specs.Called.{LeftBy}
use Rattle.holders.specs.Asked.{Limits, Simple, IfSimple, AllAsked, FactsOfTheirSort, may_write, may_write_at, within}
use Rattle.holders.specs.Evaluating.{operand_nodes, Scene, root_at, Aims, at_place, at_made, Hand, Readied, none_ready, aim_ready, AllLast}
use Rattle.holders.specs.Claimed.{known_at}
use Rattle.holders.specs.BodyParts.{part_region, PartBegins, Sights, Pending, Over, PartSo}
use Rattle.holders.specs.Numbered.{Numbered}
use Rattle.holders.proofs.Guards.{sure_reads}
use Rattle.holders.proofs.Coming.{comes_then, comes_weaker, comes_answered, comes_carried}
use Rattle.holders.proofs.Finding.{finds}
use Rattle.holders.proofs.PlainRows.{read_found}
use Rattle.holders.proofs.Constants.{int_type, not_hooked}
use Rattle.holders.proofs.FormsOfTypes.{element_form, of_type}
use Rattle.holders.proofs.Claims.{asked_type, asked_at, aims_first}
use Rattle.holders.proofs.OperandKinds.{aims_second}
use Rattle.holders.proofs.WholeExpressions.{CallsSo}
use Rattle.holders.proofs.BodyParts.{scene_stays, starts_over}
use Rattle.holders.proofs.BodyNumbers.{numbers_second}
use Rattle.holders.proofs.BodyHeads.{inner_begins, inner_sights, inner_over}
use Rattle.holders.proofs.BodyLoops.{less_written, headed, head_then, counts, elements, AllBare}
use Rattle.holders.proofs.BodyBorrows.{borrowed_so}

-- what isn't written in the body of a loop
pub loop_writes : (limits : Limits) (place : Declared) (kind : Kind) → ((kind ≡ Each place) ⊎ ((inclusive : Bool) × (kind ≡ Count place inclusive))) →
    (g : Bool) (n : ℕ) → may_write_at (within kind limits) g n ≡ true → may_write_at limits g n ≡ true
loop_writes limits place kind is true n e = refl
loop_writes limits place kind (inl q) false n e =
    less_written limits.kept place n (subst (λ k. may_write_at (within k limits) false n ≡ true) q e)
loop_writes limits place kind (inr q) false n e =
    less_written limits.kept place n (subst (λ k. may_write_at (within k limits) false n ≡ true) q.1 e)

module _ (here : Here) (first places : ℕ) (sorted : FactsOfTheirSort here.facts) (OfCall : Limits → ℕ → Args → Type 0) (Known : scopes.Here → Type 0)
    (calls : (scope : scopes.Here) → Known scope → (limits : Limits) (root : (global : Bool) → ℕ → ℕ) (os : List Owner) →
    CallsSo here scope limits root first places os (OfCall limits)) where
  abbrev known : scopes.Here → scopes.Here
  known scope = known_at here scope

  abbrev Part : {A : Type 0} → scopes.Here → Limits → (ps ns : List ℕ) → Does A → Type 0
  Part scope limits ps ns act = PartSo here first places (known scope) limits ps ns act

  -- both ends of a range are whole numbers
  ends_last : (scope : scopes.Here) (limits : Limits) (place : Declared) (inclusive : Bool) (head : Args) →
      head_fits here.facts (Count place inclusive) head ≡ true → AllAsked here.facts limits (OfCall limits) head → AllLast here (λ i. Owned) head 0
  ends_last scope limits place inclusive NoArg fits asked = tt
  ends_last scope limits place inclusive (ByPath path rest) fits asked = absurd (false≢true fits)
  ends_last scope limits place inclusive (ByValue e NoArg) fits asked = tt
  ends_last scope limits place inclusive (ByValue e (ByPath path rest)) fits asked =
      absurd (false≢true (and_parts (is_int (kind_of here.facts place.of) && is_int (kind_if here.facts (type_of e))) false fits).1)
  ends_last scope limits place inclusive (ByValue e (ByValue f NoArg)) fits asked =
      let t = and_parts (is_int (kind_of here.facts place.of) && is_int (kind_if here.facts (type_of e))) (is_int (kind_if here.facts (type_of f))) fits in (
        inl (not_hooked here.facts (type_of e) (int_type here.facts (type_of e) (asked_type here.facts limits (OfCall limits) e asked.0)
            (and_parts (is_int (kind_of here.facts place.of)) (is_int (kind_if here.facts (type_of e))) t.0).1)),
        tt,
      )
  ends_last scope limits place inclusive (ByValue e (ByValue f (ByValue g rest))) fits asked =
      absurd (false≢true (and_parts (is_int (kind_of here.facts place.of) && is_int (kind_if here.facts (type_of e))) false fits).1)
  ends_last scope limits place inclusive (ByValue e (ByValue f (ByPath path rest))) fits asked =
      absurd (false≢true (and_parts (is_int (kind_of here.facts place.of) && is_int (kind_if here.facts (type_of e))) false fits).1)

  ends_bare : (limits : Limits) (place : Declared) (inclusive : Bool) (head : Args) → head_fits here.facts (Count place inclusive) head ≡ true →
      AllAsked here.facts limits (OfCall limits) head → AllBare here head
  ends_bare limits place inclusive NoArg fits asked = tt
  ends_bare limits place inclusive (ByPath path rest) fits asked = absurd (false≢true fits)
  ends_bare limits place inclusive (ByValue e NoArg) fits asked =
      absurd (false≢true (and_parts (is_int (kind_of here.facts place.of) && is_int (kind_if here.facts (type_of e))) false fits).1)
  ends_bare limits place inclusive (ByValue e (ByPath path rest)) fits asked =
      absurd (false≢true (and_parts (is_int (kind_of here.facts place.of) && is_int (kind_if here.facts (type_of e))) false fits).1)
  ends_bare limits place inclusive (ByValue e (ByValue f NoArg)) fits asked =
      let t = and_parts (is_int (kind_of here.facts place.of) && is_int (kind_if here.facts (type_of e))) (is_int (kind_if here.facts (type_of f))) fits in (
        not_hooked here.facts (type_of e) (int_type here.facts (type_of e) (asked_type here.facts limits (OfCall limits) e asked.0)
            (and_parts (is_int (kind_of here.facts place.of)) (is_int (kind_if here.facts (type_of e))) t.0).1),
        (not_hooked here.facts (type_of f) (int_type here.facts (type_of f) (asked_type here.facts limits (OfCall limits) f asked.1.0) t.1), tt),
      )
  ends_bare limits place inclusive (ByValue e (ByValue f (ByValue g rest))) fits asked =
      absurd (false≢true (and_parts (is_int (kind_of here.facts place.of) && is_int (kind_if here.facts (type_of e))) false fits).1)
  ends_bare limits place inclusive (ByValue e (ByValue f (ByPath path rest))) fits asked =
      absurd (false≢true (and_parts (is_int (kind_of here.facts place.of) && is_int (kind_if here.facts (type_of e))) false fits).1)

  -- the place too
  place_plain : (place : Declared) (inclusive : Bool) (head : Args) → Simple here.facts place.of → head_fits here.facts (Count place inclusive) head ≡ true →
      form_of here.facts place.of ≡ plain
  place_plain place inclusive NoArg simple fits = absurd (false≢true fits)
  place_plain place inclusive (ByPath path rest) simple fits = absurd (false≢true fits)
  place_plain place inclusive (ByValue e rest) simple fits =
      int_type here.facts (Some place.of) simple
      (and_parts (is_int (kind_of here.facts place.of)) (is_int (kind_if here.facts (type_of e)))
      (and_parts (is_int (kind_of here.facts place.of) && is_int (kind_if here.facts (type_of e))) (is_one (λ ty. is_int (kind_if here.facts ty)) rest)
      fits).0).0

  pub count_so : (scope : scopes.Here) → Known scope → (limits : Limits) → ((n : ℕ) → limits.seen false n ≡ true) → (place : Declared) (inclusive : Bool)
      (node : ℕ) (head : Args) → (head_fits here.facts (Count place inclusive) head ≡ true) × (are_typed (known scope) head ≡ true) →
      AllAsked here.facts limits (OfCall limits) head → Simple here.facts place.of → (hd bd : List Declared) (bn : List ℕ) →
      Numbered here first places (known scope) limits (place ∷ (hd ++ bd)) (totals lists node_numbers head ++ bn) → (last : ℕ) (body : Does (Unit {0})) →
      Part (with_place scope place) (within (Count place inclusive) limits) (numbers_of bd) bn body →
      Part scope limits (numbers_of (place ∷ (hd ++ bd))) (totals lists node_numbers head ++ bn)
      (loop_over (Count place inclusive) node head last body here)
  count_so scope ok limits own place inclusive node head typed asked simple hd bd bn numbers last body body_so =
      let ps = numbers_of (place ∷ (hd ++ bd)) in
      let ns = totals lists node_numbers head ++ bn in
      let more = within (Count place inclusive) limits in
      let rest : List Ready → Does (Unit {0}) =
      λ ready. loop (count_turn node here place last body (limit inclusive (number_of (ready_operand (ready_rest ready))))) (number_of (ready_operand ready)) in
      head_then here first places sorted OfCall Known calls scope ok limits own place head typed.1 asked hd bd bn numbers node rest
      (ends_last scope limits place inclusive head typed.0 asked)
      (λ os nodes start mid xs b sights a.
      let h = headed here first places sorted OfCall Known calls scope ok limits own place head typed.1 asked hd bd bn numbers b sights a
      (ends_bare limits place inclusive head typed.0 asked) in
      let J : World → Type 0 = λ after. Over here first places (known scope) limits (numbers_of (place ∷ bd)) bn (h.own ++ os) h.later
      h.stage.runs.territory.blocks
      mid.world after in
      let W : World → Type 0 = λ after. Pending (part_region here.level ps ns) [] os first places nodes (waits_in here head) b.territory.blocks start after in
      comes_weaker (λ u after. J after) (LeftBy J) (λ u after. W after) (LeftBy W) (rest xs mid)
      (counts here first places sorted OfCall Known calls scope ok limits own place head typed.1 asked hd bd bn numbers more (λ g n e. e)
      (loop_writes limits place (Count place inclusive) (inr (inclusive, refl))) last body body_so (inner_begins here first places (known scope) limits ps ns h)
      (inner_sights here first places (known scope) limits ps ns h) node
      (limit inclusive (number_of (ready_operand (ready_rest xs)))) (number_of (ready_operand xs))
      (place_plain place inclusive head simple typed.0) mid refl)
      (λ u after e. inner_over here first places (known scope) limits ps ns h e)
      (λ way after e. (e.0, inner_over here first places (known scope) limits ps ns h e.1)))

  -- ---- over elements

  -- where a head leads, at each turn
  record HeadAims (scope : scopes.Here) (limits : Limits) (root : (global : Bool) → ℕ → ℕ) (own os : List Owner) (path : Path) (aim : Aim) : Type 0 where
    position : ℕ
    aims : (world : World) → Scene here (known scope) limits root os world →
        AimsAt (own ++ os) world (may_write limits path) position aim (form_for here.facts (type_at path))

  head_aims : (scope : scopes.Here) (limits : Limits) (root : (global : Bool) → ℕ → ℕ) (own os : List Owner) (path : Path) (aim : Aim) →
      Aims here (known scope) limits root own os path (form_for here.facts (type_at path)) aim → HeadAims scope limits root own os path aim
  head_aims scope limits root own os path aim (at_place h steps fresh) =
      record { position = length own + root_at root path; aims = λ world scene. aims_second own (h world scene) }
  head_aims scope limits root own os path aim (at_made {n = n} unwritten h fresh) = record {
    position = n;
    aims = λ world scene. subst (λ b. AimsAt (own ++ os) world b n aim (form_for here.facts (type_at path))) (sym unwritten) (aims_first os (h world));
  }

  record HeadAim (scope : scopes.Here) (limits : Limits) (root : (global : Bool) → ℕ → ℕ) (own os : List Owner) (path : Path) (xs : List Ready) : Type 0 where
    aim : Aim
    is : xs ≡ Aimed aim ∷ []
    aims : Aims here (known scope) limits root own os path (form_for here.facts (type_at path)) aim

  aim_of_head : (scope : scopes.Here) (limits : Limits) (root : (global : Bool) → ℕ → ℕ) (own os : List Owner) {now : World} {h : Hand} {xs : List Ready}
      (path : Path) → Readied here (known scope) limits root (λ i. Owned) own os now h (ByPath path NoArg) 0 xs → HeadAim scope limits root own os path xs
  aim_of_head scope limits root own os path (aim_ready {aim = aim} a none_ready) = record { aim = aim; is = refl; aims = a }

  -- an element of a head has the form of the loop's place
  item_form : (scope : scopes.Here) (limits : Limits) (place : Declared) (path : Path) → head_fits here.facts (Each place) (ByPath path NoArg) ≡ true →
      IfSimple here.facts (type_at path) → ItemForm (form_for here.facts (type_at path)) (form_of here.facts place.of)
  item_form scope limits place path fits simple = by (type_at path) simple
      (of_type (and_parts (has_length (kind_if here.facts (type_at path))) (is_of (element_of (kind_if here.facts (type_at path))) (Some place.of)) fits).1)
    where
      by : (o : Option Ty) → IfSimple here.facts o → element_of (kind_if here.facts o) ≡ Some place.of →
          ItemForm (form_for here.facts o) (form_of here.facts place.of)
      by None s e = absurd (none-some place.of e)
      by (Some ty) s e = subst (λ f. ItemForm f (form_of here.facts place.of)) (sym (the_form s.has)) (element_form s.has e)

  -- a loop whose place doesn't stand for an element of a value of its own
  copied_each : (scope : scopes.Here) → Known scope → (limits : Limits) → ((n : ℕ) → limits.seen false n ≡ true) → (place : Declared) (node : ℕ)
      (path : Path) → (head_fits here.facts (Each place) (ByPath path NoArg) ≡ true) × (are_typed (known scope) (ByPath path NoArg) ≡ true) →
      AllAsked here.facts limits (OfCall limits) (ByPath path NoArg) → Simple here.facts place.of → (hd bd : List Declared) (bn : List ℕ) →
      Numbered here first places (known scope) limits (place ∷ (hd ++ bd)) (totals lists node_numbers (ByPath path NoArg) ++ bn) → (last : ℕ)
      (body : Does (Unit {0})) → Part (with_place scope place) (within (Each place) limits) (numbers_of bd) bn body →
      (is_fresh (ByPath path NoArg) ≡ true → is_hooked here.facts place.of ≡ true → ⊥) →
      Part scope limits (numbers_of (place ∷ (hd ++ bd))) (totals lists node_numbers (ByPath path NoArg) ++ bn)
      (loop_over (Each place) node (ByPath path NoArg) last body here)
  copied_each scope ok limits own place node path typed asked simple hd bd bn numbers last body body_so copies =
      let ps = numbers_of (place ∷ (hd ++ bd)) in
      let ns = totals lists node_numbers head ++ bn in
      head_then here first places sorted OfCall Known calls scope ok limits own place head typed.1 asked hd bd bn numbers node
      (λ ready. rest (ready_aim ready)) tt
      (λ os nodes start mid xs b sights a.
      let h = headed here first places sorted OfCall Known calls scope ok limits own place head typed.1 asked hd bd bn numbers b sights a tt in
      let W : World → Type 0 = λ after. Pending (part_region here.level ps ns) [] os first places nodes (waits_in here head) b.territory.blocks start after in
      let J : World → Type 0 = λ after. Over here first places (known scope) limits ips bn (h.own ++ os) h.later h.stage.runs.territory.blocks
      mid.world after in
      let at = aim_of_head scope limits sights.root a.own os path a.ready in
      let to = head_aims scope limits sights.root h.own os path at.aim at.aims in
      let scene = scene_stays [] (operand_nodes head) h.stage.runs.passes (λ g n ty seen e same m. elim m [ ]) sights.scene in
      let aims : (now : World) → J now → AimsAt (h.own ++ os) now (may_write limits path) to.position at.aim f =
      λ now j. to.aims now (scene_stays ips bn j.stage.runs.passes (λ g n ty s e same m. numbers.none g n ty s e same (into n m)) scene) in
      subst (λ ready. Comes (λ u after. W after) (LeftBy W) (rest (ready_aim ready) mid)) (sym at.is)
      (comes_weaker (λ u after. J after) (LeftBy J) (λ u after. W after) (LeftBy W) (rest at.aim mid)
      (loops (h.own ++ os) h.later mid (inner_begins here first places (known scope) limits ps ns h)
      (inner_sights here first places (known scope) limits ps ns h) at.aim (may_write limits path) to.position aims)
      (λ u after e. inner_over here first places (known scope) limits ps ns h e)
      (λ way after e. (e.0, inner_over here first places (known scope) limits ps ns h e.1))))
    where
      head : Args
      head = ByPath path NoArg

      ips : List ℕ
      ips = numbers_of (place ∷ bd)

      f : Form
      f = form_for here.facts (type_at path)

      item : ItemForm f (form_of here.facts place.of)
      item = item_form scope limits place path typed.0 (asked_at here.facts limits (OfCall limits) path asked.0)

      into : (n : ℕ) → Member n ips → Member n (numbers_of (place ∷ (hd ++ bd)))
      into n (inl e) = inl e
      into n (inr m) = inr (numbers_second n hd bd m)

      turns : Aim → ℕ → Does (Unit {0})
      turns aim len = loop (each_turn node here place (is_fresh head) last body aim len) 0

      rest : Aim → Does (Unit {0})
      rest aim = at_node node points.Looks (find aim) >>= (λ l. carry (length_at l) >>= (λ len. turns aim len))

      -- where it leads, how many there are, and the turns
      loops : (qs : List Owner) (later : List ℕ) (mid : State) (b : PartBegins here.level first places ips bn qs later mid.world) →
          Sights here (known scope) limits qs mid.world → (aim : Aim) (may : Bool) (position : ℕ) →
          ((now : World) → Over here first places (known scope) limits ips bn qs later b.territory.blocks mid.world now → AimsAt qs now may position aim f) →
          Comes (λ u after. Over here first places (known scope) limits ips bn qs later b.territory.blocks mid.world after)
          (LeftBy (λ after. Over here first places (known scope) limits ips bn qs later b.territory.blocks mid.world after)) (rest aim mid)
      loops qs later mid b sights aim may position aims =
          let J : World → Type 0 = λ after. Over here first places (known scope) limits ips bn qs later b.territory.blocks mid.world after in
          let Is : Location → World → Type 0 = λ l after. (after ≡ mid.world) × Found qs mid.world may position (steps_of aim) f l in
          let there = with_trail (Spot node points.Looks ∷ mid.trail) mid in
          comes_then (at_node node points.Looks (find aim)) (λ l. carry (length_at l) >>= (λ len. turns aim len)) Is (λ u after. J after) (LeftBy J) mid
          (comes_answered Is (LeftBy J) (find aim there) (finds there b.territory (aims mid.world (starts_over ips bn b))))
          (λ l now p. comes_then (carry (length_at l)) (λ len. turns aim len) (λ len after. after ≡ mid.world) (λ u after. J after) (LeftBy J) now
          (comes_carried (λ len after. after ≡ mid.world) (LeftBy J) (length_at l) now
          (let read = read_found b.territory p.1 in
          subst (λ w. Sure (length_at l) (λ len after. after ≡ mid.world) w) (sym p.0)
          (sure_reads (λ world v. deeds.give (length_of v)) (λ len after. after ≡ mid.world) read.from tt read.has refl)))
          (λ len last_one same. elements here first places sorted OfCall Known calls scope ok limits own place head typed.1 asked hd bd bn numbers
          (within (Each place) limits) (λ g n e. e) (loop_writes limits place (Each place) (inl refl)) last body body_so b sights aim may position f item aims
          node len 0 (is_fresh head) copies last_one same))

  pub each_so : (scope : scopes.Here) → Known scope → (limits : Limits) → ((n : ℕ) → limits.seen false n ≡ true) → (place : Declared) (node : ℕ)
      (head : Args) → (head_fits here.facts (Each place) head ≡ true) × (are_typed (known scope) head ≡ true) →
      AllAsked here.facts limits (OfCall limits) head → Simple here.facts place.of → (hd bd : List Declared) (bn : List ℕ) →
      Numbered here first places (known scope) limits (place ∷ (hd ++ bd)) (totals lists node_numbers head ++ bn) → (last : ℕ) (body : Does (Unit {0})) →
      Part (with_place scope place) (within (Each place) limits) (numbers_of bd) bn body →
      Part scope limits (numbers_of (place ∷ (hd ++ bd))) (totals lists node_numbers head ++ bn) (loop_over (Each place) node head last body here)
  each_so scope ok limits own place node NoArg typed asked simple hd bd bn numbers last body body_so = absurd (false≢true typed.0)
  each_so scope ok limits own place node (ByValue e rest) typed asked simple hd bd bn numbers last body body_so = absurd (false≢true typed.0)
  each_so scope ok limits own place node (ByPath path (ByValue e rest)) typed asked simple hd bd bn numbers last body body_so = absurd (false≢true typed.0)
  each_so scope ok limits own place node (ByPath path (ByPath other rest)) typed asked simple hd bd bn numbers last body body_so = absurd (false≢true typed.0)
  each_so scope ok limits own place node (ByPath (Variable n ty p global) NoArg) typed asked simple hd bd bn numbers last body body_so =
      copied_each scope ok limits own place node (Variable n ty p global) typed asked simple hd bd bn numbers last body body_so (λ q h. false≢true q)
  each_so scope ok limits own place node (ByPath (Field n ty base field) NoArg) typed asked simple hd bd bn numbers last body body_so =
      copied_each scope ok limits own place node (Field n ty base field) typed asked simple hd bd bn numbers last body body_so (λ q h. false≢true q)
  each_so scope ok limits own place node (ByPath (Element n ty base index constant) NoArg) typed asked simple hd bd bn numbers last body body_so =
      copied_each scope ok limits own place node (Element n ty base index constant) typed asked simple hd bd bn numbers last body body_so (λ q h. false≢true q)
  each_so scope ok limits own place node (ByPath (Deref ty base) NoArg) typed asked simple hd bd bn numbers last body body_so =
      copied_each scope ok limits own place node (Deref ty base) typed asked simple hd bd bn numbers last body body_so (λ q h. false≢true q)
  each_so scope ok limits own place node (ByPath (Fresh value) NoArg) typed asked simple hd bd bn numbers last body body_so =
      by (is_hooked here.facts place.of) refl
    where
      by : (c : Bool) → is_hooked here.facts place.of ≡ c →
          Part scope limits (numbers_of (place ∷ (hd ++ bd))) (totals lists node_numbers (ByPath (Fresh value) NoArg) ++ bn)
          (loop_over (Each place) node (ByPath (Fresh value) NoArg) last body here)
      by false unhooked =
          copied_each scope ok limits own place node (Fresh value) typed asked simple hd bd bn numbers last body body_so
          (λ q h. false≢true (sym unhooked ∙ h))
      by true hooks =
          borrowed_so here first places sorted OfCall Known calls scope ok limits own place node value hooks typed.1 asked
          (item_form scope limits place (Fresh value) typed.0 (asked_at here.facts limits (OfCall limits) (Fresh value) asked.0)) hd bd bn numbers last body
          body_so
