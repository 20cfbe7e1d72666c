-- A call returns to its caller, which gets the value that it gives, where it has a place for it.
use Rattle.std.proofs.Common.{◌≡◌, ◌⊎◌, inl, inr, ℕ, suc, ◌+◌, ◌≤◌, List, ◌∷◌, Some, true, false, ◌%◌}
use Rattle.std.proofs.Common.{refl, sym, ap, ap₂, subst, ◌∙◌, arith}
use Rattle.nim_meaning.specs.Values.{Value, bytes, is_full}
use Rattle.flat_code.specs.declared.block.BlockLine.{BlockLine}
use Rattle.flat_code.specs.declared.place.PlaceKind.TheVariants as K
use Rattle.flat_code.specs.Fits.{is_value}
use Rattle.flat_code.specs.Scene.{Returns, with_value}
use Rattle.flat_code.specs.Shapes.{has_shape, Shape}
use Rattle.word_code.specs.declared.word.WordInstr.{WordInstr}
use Rattle.word_code.specs.Words.{Vars, no_words, put, WordState}
use Rattle.word_code.proofs.ForCallers.{Runs, Within, at, then_runs}
use Rattle.word_lowering.specs.declared.homes.Home.{Home}
use Rattle.word_lowering.specs.declared.homes.Home.TheVariants.{Variable, Placed, Static}
use Rattle.word_lowering.specs.declared.homes.Housed.{Housed}
use Rattle.word_lowering.specs.declared.homes.TheConstants.{FIRST}
use Rattle.word_lowering.specs.declared.spots.Spot.{Spot}
use Rattle.word_lowering.specs.declared.spots.Spot.TheVariants.{Lies}
use Rattle.word_lowering.specs.declared.texts.TheConstants.{FIXED_BYTES}
use Rattle.word_lowering.specs.Layouts.{nowhere, result_in, holds_address}
use Rattle.word_lowering.specs.LineCode.{result_code, left_at}
use Rattle.word_lowering.specs.Spots.{spot_of, moved, moves}
use Rattle.word_lowering.proofs.HeapKept.{heap_more}
use Rattle.word_lowering.proofs.CallerGets.{good_gets, good_nothing, good_word_back, settles_back, good_gets_item}
use Rattle.word_lowering.proofs.Gets.{memory_kept, heap_kept}
use Rattle.word_lowering.proofs.Keeping.{spot_held, spot_memory, points_there, from_memory, to_memory, somewhere, call, from_home, to_home}
use Rattle.word_lowering.proofs.LineFits.{single_is}
use Rattle.word_lowering.proofs.Lines.{Basis, all_procs, starts, IsGood, Settles, all_sites, IsQuiet}
use Rattle.word_lowering.proofs.Moves.{is_single, single_word, same_first, same_more, IsArea, single_small}
use Rattle.word_lowering.proofs.Options.{some_same}
use Rattle.word_lowering.proofs.Related.{Both, Waits, low, code_behind, awaits_in, goes_on, MayAnswer, MemoryGood, store_of, store_with}
use Rattle.word_lowering.proofs.Returned.{called, sites_left, linked_left, memory_left, good_left, heap_left, left_read}
use Rattle.word_lowering.proofs.ReturnLines.{place_high, after, HandsBack}
use Rattle.word_lowering.proofs.Scenes.{address_of, of_value, of_place, house, looked, IsNumbers, IsNamed, IsItem, StoredIn, is_fixed}
use Rattle.word_lowering.proofs.ShapeFacts.{never, of_numbers, shape_bytes}
use Rattle.word_lowering.proofs.Sites.{room, looks, Housing, in_variable, by_address, in_places, in_data, InVariable, InMemory, data_end, around, IsHoused}
use Rattle.word_lowering.proofs.Sites.{Linked, is_one_word}
use Rattle.word_lowering.proofs.Sites.{Site, There}
use Rattle.word_lowering.proofs.SitesApart.{houses, InRange, site_at, next_least}
use Rattle.word_lowering.proofs.Sources.{lying_all, size_is, small_word, address_whole, area_by, lying_range, lies_at, to_bytes_by, Lying, Readable}
use Rattle.word_lowering.proofs.Sources.{lying_area, lying_near}
use Rattle.word_lowering.proofs.Targets.{found_or}
use Rattle.word_lowering.proofs.ValueFacts.{value_plain, housed_inside}
use Rattle.word_lowering.proofs.InMemory.{IsAt, carries, HasWords}
use Rattle.word_code.specs.RoutineTable.{Separate}
use Rattle.word_code.specs.Memory.{Memory}
use Rattle.word_code.specs.declared.word.TheConstants.{SPARE_ROOM}
use Rattle.word_lowering.proofs.BitMoves.{bytes_moved, low_carried}
use Rattle.word_lowering.proofs.BlocksBorn.{later_same}
use Rattle.word_lowering.proofs.FullValues.{full_shape, stored_bytes}
use Rattle.word_lowering.proofs.StoredLater.{shape_some, shape_whole, stored_small}

no_word_both : (home : Home) → InVariable home → InMemory home → ⊥
no_word_both (Variable v) i j = j
no_word_both (Placed n) i j = i
no_word_both (Static n) i j = i

module _ (x : Basis) (h : Both) (w : Waits) (ws : List Waits) (line : BlockLine) (rest : List BlockLine)
    (y : IsGood x (starts (called x h w ws line rest) line rest)) (last : IsQuiet x line) (v : Value) where
  abbrev g : Both
  g = called x h w ws line rest

  abbrev sites : List Site
  sites = all_sites x g line rest y

  -- the calls that are left, and memory then
  abbrev left : List Site
  left = sites_left x h w ws line rest y

  abbrev linked : Linked x.table x.blocks left
  linked = linked_left x h w ws line rest y

  abbrev memory_now : Memory
  memory_now = memory_left x h w ws line rest y

  good_now : MemoryGood x.table x.blocks left x.first memory_now
  good_now = good_left x h w ws line rest y

  abbrev to : Housed
  to = house w.call.site (of_value w.to)

  abbrev k_next : List WordInstr
  k_next = code_behind x.table x.blocks w.call.site.body w.rest

  abbrev code_here : List WordInstr
  code_here = code_behind x.table x.blocks h.call.site.body (line ∷ rest)

  -- the caller's call, as word code has it, with a variable for the result
  abbrev within_back : ℕ → Within
  within_back awaits = record (after x h w ws line rest y) { awaits = awaits }

  -- the state behind the return, by where the caller's temporary is
  abbrev state : Housed → Spot → ℕ → WordState
  state t s n = at (within_back (awaits_in x.table x.blocks s)) memory_now (goes_on x.table x.blocks w.call.site.body t s w.proc k_next)
      (put w.call.vars (awaits_in x.table x.blocks s) n) no_words

  abbrev pub Goes : ℕ → Type 0
  Goes work = Settles x (starts g line rest) rest (Returns v work)

  -- ---- the caller's temporary has no place

  pub unwanted : (IsNamed w.call.site (of_value w.to) → ⊥) → (u : Value) (work : ℕ) → 1 ≤ work → HandsBack x h w ws line rest y u code_here → Goes work
  unwanted unnamed u work some b =
      settles_back x h w ws line rest y v last work (put w.call.vars FIRST b.handed) memory_now no_words FIRST
      (good_nothing x h w ws line rest y v unnamed b.handed FIRST) b.steps b.some (let f = b.few in omega (arith, f, some))
      (subst (Runs x.live (all_procs x) b.steps (low x.table x.blocks (starts g line rest))) (ap (λ t. state t (spot_of t) b.handed) none) b.runs)
    where
      by : There w.call.site.body.own.all is_value w.to ⊎ (house w.call.site (of_value w.to) ≡ nowhere) → house w.call.site (of_value w.to) ≡ nowhere
      by (inl there) = absurd (unnamed there)
      by (inr e) = e

      none : house w.call.site (of_value w.to) ≡ nowhere
      none = by (found_or is_value w.to w.call.site.body.own.all)

  -- ---- it gets a value that is somewhere in the call that ends

  module _ (p : ℕ) (item : IsNumbers x.table h.memory h.call (of_place p) v) (may : MayAnswer x.table x.blocks h.call.site.body w)
      (result_is : result_in h.call.site.body.own.all ≡ Some (house h.call.site (of_place p))) (b : HandsBack x h w ws line rest y v code_here) where
    abbrev from : Housed
    from = house h.call.site (of_place p)

    same : may.result ≡ from
    same = some_same may.result from (sym may.is ∙ result_is)

    numbers : of_numbers (looked x.table w.call.site (of_value w.to)) ≡ true
    numbers = ap of_numbers (may.typed ∙ ap (looks x.table) same) ∙ item.numbers

    shaped : has_shape v (looked x.table w.call.site (of_value w.to)) ≡ true
    shaped = subst (λ s. has_shape v s ≡ true) (sym (may.typed ∙ ap (looks x.table) same)) item.shaped

    place_to : IsHoused x.table x.blocks w.call.site.body to
    place_to = houses x.table x.blocks w.call.site (of_value w.to) y.linked.5.0 may.there

    place_from : IsHoused x.table x.blocks h.call.site.body from
    place_from = houses x.table x.blocks h.call.site (of_place p) y.linked.0 item.there

    plain_to : holds_address to ≡ false
    plain_to = value_plain to may.there.kind

    small : HasWords v
    small = small_word x sites y.linked h.call (inl refl) (of_place p) item.there item.plain v item.numbers item.shaped

    single_to : is_single v ≡ to.is_word
    single_to = single_is v (looked x.table w.call.site (of_value w.to)) numbers shaped ∙ place_to.word

    single_from : is_single v ≡ from.is_word
    single_from = single_is v (looked x.table h.call.site (of_place p)) item.numbers item.shaped ∙ place_from.word

    abbrev Done : Type 0
    Done = Goes (suc (bytes v))

    in_variable_done : (u : ℕ) → to.home ≡ Variable u → to.is_word ≡ true → Done
    in_variable_done u home is_word =
        settles_back x h w ws line rest y v last (suc (bytes v)) (put w.call.vars u (single_word v)) memory_now no_words u
        (good_word_back x h w ws line rest y v may.there numbers shaped u home (single_small v small) u) b.steps b.some (let f = b.few in omega (arith, f))
        (subst (Runs x.live (all_procs x) b.steps (low x.table x.blocks (starts g line rest)))
        (ap₂ (state to) (spot_held to u plain_to home) (b.is (single_to ∙ is_word))) b.runs)

    -- in memory, from where the result was
    module _ (inside : InMemory to.home) (n : ℕ) (home : from.home ≡ Placed n) where
      abbrev old : Housed
      old = record from { kind = K.Temp; home = Placed (n + room w.call.site.body) }

      abbrev vars_first : Vars
      vars_first = put w.call.vars FIRST b.handed

      abbrev a : ℕ
      a = address_of w.call.site.base to.home

      code_is : goes_on x.table x.blocks w.call.site.body to (spot_of to) w.proc k_next ≡ moves to old k_next
      code_is =
          ap (λ s. goes_on x.table x.blocks w.call.site.body to s w.proc k_next) (spot_memory to plain_to inside)
          ∙ ap (λ l. result_code (around x.table x.blocks w.call.site.body) to (result_in l.all) k_next) y.answers.0.layout
          ∙ ap (λ r. result_code (around x.table x.blocks w.call.site.body) to r k_next) result_is
          ∙ ap (λ e. moved from.is_word from.bytes (spot_of to) (Lies (left_at (room w.call.site.body) e)) k_next) home

      first : Runs x.live (all_procs x) b.steps (low x.table x.blocks (starts g line rest))
          (at (within_back FIRST) memory_now (moves to old k_next) vars_first no_words)
      first = subst (Runs x.live (all_procs x) b.steps (low x.table x.blocks (starts g line rest)))
          (ap₂ (λ q l. at (within_back q) memory_now l (put w.call.vars q b.handed) no_words)
          (ap (awaits_in x.table x.blocks) (spot_memory to plain_to inside)) code_is) b.runs

      size_to : to.bytes ≡ bytes v
      size_to = size_is x sites y.linked w.call (inr (inl refl)) (of_value w.to) may.there plain_to v numbers shaped

      size_from : from.bytes ≡ bytes v
      size_from = size_is x sites y.linked h.call (inl refl) (of_place p) item.there item.plain v item.numbers item.shaped

      placed_done : Done
      placed_done =
          let from_inside : InMemory from.home = subst InMemory (sym home) tt in
          let was = from_memory h.memory h.call.site.base h.call.vars from v item.plain from_inside item.at in
          let b_at : ℕ = address_of h.call.site.base from.home in
          let begins = y.linked.4 in
          let ends : n + bytes v ≤ SPARE_ROOM = (let s = y.linked.0.handed from n result_is home in omega (arith, s, size_from)) in
          let at_end : b_at ≡ h.call.site.base + n = ap (address_of h.call.site.base) home in
          let same_address : b_at ≡ w.call.site.base + (n + room w.call.site.body) = (let e = at_end in omega (arith, begins, e)) in
          let least = next_least x.table x.blocks left linked in
          let aligned = address_whole x sites y.linked h.call.site (of_place p) (inl refl) item.there from_inside in
          let source : IsAt memory_now b_at v = carries h.memory memory_now b_at b_at v (λ o word inner is read.
          left_read x h w ws line rest y (b_at + o) word (let e = same_address in omega (arith, e, ends, inner)) read) was in
          let area : IsArea memory_now b_at (bytes v) = (λ q le. area_by memory_now q b_at aligned (λ c low high is. good_now.cells c is
          (let e = same_address in inr (omega (arith, least, low, e), omega (arith, high, le, e, ends))))) in
          let readable : Readable x left linked memory_now b_at (bytes v) = record {
            area = area;
            near = (let t = x.within left linked in let e = same_address in omega (arith, t, e, ends));
            separate = λ c t all. apart c t b_at same_address (lying_range x left linked c (bytes v) t);
          } in
          let lying = lying_all x left linked w.call.site (of_value w.to) (bytes v) (inl refl) may.there inside size_to in
          let r = to_bytes_by x left linked (within_back FIRST) refl no_words memory_now good_now k_next vars_first to old v (sym single_from) size_from small
          to.home (spot_memory to plain_to inside) a (points_there w.call.site.base vars_first to.home inside) lying false
          (lies_at (Placed (n + room w.call.site.body)) refl tt b_at same_address source readable (λ no. never no)) (inl size_to) in
          let kept = same_more w.call.vars vars_first r.vars (same_first w.call.vars b.handed) r.same in
          let s = b.some in
          let f = b.few in
          let size = size_to in
          let few = r.few in
          settles_back x h w ws line rest y v last (suc (bytes v)) r.vars r.memory r.words r.awaits
          (good_gets x h w ws line rest y v may.there numbers shaped r.vars r.memory r.words r.awaits
          (memory_kept x left linked memory_now r.memory a (bytes v) good_now r.changed lying)
          (heap_more h.memory memory_now r.memory (heap_left x h w ws line rest y)
          (heap_kept x left linked memory_now r.memory a (bytes v) good_now r.changed lying))
          (somewhere a (bytes v) (λ c word place before apart_c read. r.changed.outside c apart_c
          ∙ left_read x h w ws line rest y c word (omega (arith, before)) read) (inl refl) may.there inside (omega arith) (omega (arith, size)))
          (λ f u is ne e. kept.others u (place_high x w.call.site y.linked.5.0 f u is e)) kept.left
          (to_memory r.memory w.call.site.base r.vars to v plain_to inside r.there))
          (b.steps + r.steps) (omega (arith, s)) (omega (arith, f, few))
          (then_runs x.live (all_procs x) first r.runs)
        where
          -- the places that are left end before it
          apart : (c : ℕ) (t : Lying x (sites_left x h w ws line rest y) (linked_left x h w ws line rest y) c (bytes v)) (b_at : ℕ)
              → b_at ≡ w.call.site.base + (n + room w.call.site.body) → InRange x.table x.blocks t.site c (bytes v) → Separate c b_at (bytes v)
          apart c t b_at e (inl r) =
              let d = x.small in
              let least = (site_at x.table x.blocks (sites_left x h w ws line rest y) w.call.site (linked_left x h w ws line rest y) (inl refl)).least in
              inr (inl (omega (arith, r.2, d, least, e)))
          apart c t b_at e (inr r) =
              let most = (site_at x.table x.blocks (sites_left x h w ws line rest y) t.site (linked_left x h w ws line rest y) t.among).most in
              inr (inl (omega (arith, r.1, most, e)))

    in_memory_done : InMemory to.home → Done
    in_memory_done inside = by place_from.where_is
      where
        no_word : is_single v ≡ true → Settles x (starts (called x h w ws line rest) line rest) rest (Returns v (suc (bytes v)))
        no_word e = absurd (no_word_both to.home (place_to.kept may.there.kind (sym single_to ∙ e)) inside)

        by : Housing (room h.call.site.body) FIXED_BYTES (data_end x.table x.blocks) h.call.site.body.start (house h.call.site (of_place p))
            → Settles x (starts (called x h w ws line rest) line rest) rest (Returns v (suc (bytes v)))
        by (in_variable u home plain high_u is_word) = no_word (single_from ∙ is_word)
        by (by_address u home address high_u) = never (sym item.plain ∙ address)
        by (in_places n home plain aligned within_it) = placed_done inside n home
        by (in_data n home plain aligned low_end within_it start) = never (sym y.linked.1 ∙ start)

    pub wanted : Done
    wanted = by place_to.where_is
      where
        by : Housing (room w.call.site.body) FIXED_BYTES (data_end x.table x.blocks) w.call.site.body.start (house w.call.site (of_value w.to))
            → Settles x (starts (called x h w ws line rest) line rest) rest (Returns v (suc (bytes v)))
        by (in_variable u home plain high_u is_word) = in_variable_done u home is_word
        by (by_address u home address high_u) = never (sym plain_to ∙ address)
        by (in_places n home plain aligned within_it) = in_memory_done (subst InMemory (sym home) tt)
        by (in_data n home plain aligned low_end within_it start) = in_memory_done (subst InMemory (sym home) tt)

  -- ---- it gets by bits what is no word, whatever that has

  module _ (p : ℕ) (item : IsItem x.table (store_of h) h.call (of_place p) v) (full : is_full v ≡ true)
      (many : is_one_word (looked x.table h.call.site (of_place p)) ≡ false) (may : MayAnswer x.table x.blocks h.call.site.body w)
      (result_is : result_in h.call.site.body.own.all ≡ Some (house h.call.site (of_place p))) (b : HandsBack x h w ws line rest y v code_here) where
    abbrev given : Housed
    given = house h.call.site (of_place p)

    abbrev shape : Shape
    shape = looked x.table h.call.site (of_place p)

    look : looked x.table w.call.site (of_value w.to) ≡ shape
    look = may.typed ∙ ap (looks x.table) (some_same may.result given (sym may.is ∙ result_is))

    target : IsHoused x.table x.blocks w.call.site.body to
    target = houses x.table x.blocks w.call.site (of_value w.to) y.linked.5.0 may.there

    origin : IsHoused x.table x.blocks h.call.site.body given
    origin = houses x.table x.blocks h.call.site (of_place p) y.linked.0 item.there

    target_plain : holds_address to ≡ false
    target_plain = value_plain to may.there.kind

    target_inside : InMemory to.home
    target_inside = housed_inside x w.call.site.body to target target_plain (ap is_one_word look ∙ many)

    size : to.bytes ≡ given.bytes
    size = sym target.bytes ∙ (ap shape_bytes look ∙ origin.bytes)

    no_word_given : given.is_word ≡ false
    no_word_given = sym origin.word ∙ many

    placed_bits : (n : ℕ) → given.home ≡ Placed n → Goes (suc (bytes v))
    placed_bits n home =
        let from_inside : InMemory given.home = subst InMemory (sym home) tt in
        let spot : spot_of to ≡ Lies to.home = spot_memory to target_plain target_inside in
        let lines : List WordInstr = moved false to.bytes (Lies to.home) (Lies (Placed (n + room w.call.site.body))) k_next in
        let code : goes_on x.table x.blocks w.call.site.body to (spot_of to) w.proc k_next
        ≡ moved false to.bytes (Lies to.home) (Lies (Placed (n + room w.call.site.body))) k_next
        = ap (λ s. goes_on x.table x.blocks w.call.site.body to s w.proc k_next) (spot_memory to target_plain target_inside)
        ∙ (ap (λ l. result_code (around x.table x.blocks w.call.site.body) to (result_in l.all) k_next) y.answers.0.layout
        ∙ (ap (λ r. result_code (around x.table x.blocks w.call.site.body) to r k_next) result_is
        ∙ (ap (λ e. moved given.is_word given.bytes (spot_of to) (Lies (left_at (room w.call.site.body) e)) k_next) home
        ∙ (ap₂ (λ i q. moved i q (spot_of to) (Lies (Placed (n + room w.call.site.body))) k_next) no_word_given (sym size)
        ∙ ap (λ s. moved false to.bytes s (Lies (Placed (n + room w.call.site.body))) k_next) (spot_memory to target_plain target_inside))))) in
        let vars1 : Vars = put w.call.vars FIRST b.handed in
        let first_run : Runs x.live (all_procs x) b.steps (low x.table x.blocks (starts g line rest)) (at (within_back FIRST) memory_now lines vars1 no_words)
        = subst (Runs x.live (all_procs x) b.steps (low x.table x.blocks (starts g line rest)))
        (ap₂ (λ q l. at (within_back q) memory_now l (put w.call.vars q b.handed) no_words) (ap (awaits_in x.table x.blocks) spot) code) b.runs in
        let a_at : ℕ = address_of w.call.site.base to.home in
        let b_at : ℕ = address_of h.call.site.base given.home in
        let begins = y.linked.4 in
        let ends : n + to.bytes ≤ SPARE_ROOM = (let s = y.linked.0.handed given n result_is home in omega (arith, s, size)) in
        let at_end : b_at ≡ h.call.site.base + n = ap (address_of h.call.site.base) home in
        let same_address : b_at ≡ w.call.site.base + (n + room w.call.site.body) = (let e = at_end in omega (arith, begins, e)) in
        let least = next_least x.table x.blocks left linked in
        let aligned = address_whole x sites y.linked h.call.site (of_place p) (inl refl) item.there from_inside in
        let area : IsArea memory_now b_at to.bytes = (λ q le. area_by memory_now q b_at aligned (λ c low high is. good_now.cells c is
        (let e = same_address in inr (omega (arith, least, low, e), omega (arith, high, le, e, ends))))) in
        let readable : Readable x left linked memory_now b_at to.bytes = record {
          area = area;
          near = (let t = x.within left linked in let e = same_address in omega (arith, t, e, ends));
          separate = λ c t all. beside c t b_at same_address (lying_range x left linked c to.bytes t);
        } in
        let lying : Lying x left linked a_at to.bytes
        = lying_all x left linked w.call.site (of_value w.to) to.bytes (inl refl) may.there target_inside refl in
        let whole : to.bytes % 4 ≡ 0 = subst (λ q. q % 4 ≡ 0) target.bytes (shape_whole (looked x.table w.call.site (of_value w.to))) in
        let some : 4 ≤ to.bytes = subst (λ q. 4 ≤ q) target.bytes (shape_some (looked x.table w.call.site (of_value w.to))) in
        let r = bytes_moved x left linked (within_back FIRST) refl no_words memory_now good_now k_next vars1 to.home (Placed (n + room w.call.site.body))
        a_at b_at to.bytes tt (points_there w.call.site.base vars1 to.home target_inside) same_address whole some
        (lying_area x left linked memory_now a_at to.bytes good_now lying) (lying_near x left linked a_at to.bytes lying) readable
        (readable.separate a_at lying refl) in
        let stored_was : StoredIn (store_of h) b_at shape v
        = from_home (store_of h) h.call.site.base h.call.vars shape given v item.plain from_inside item.at in
        let given_bytes = origin.bytes in
        let stored_now : StoredIn (store_with h r.memory) a_at shape v
        = stored_small (is_fixed h.ground) h.ground.blocks h.ground.blocks (later_same h.ground.blocks) h.memory r.memory b_at a_at shape v
        (λ o word inner is_whole small read. low_carried memory_now r.memory b_at a_at to.bytes r.same o word (omega (arith, inner, given_bytes, size))
        is_whole small
        (left_read x h w ws line rest y (b_at + o) word (let e = same_address in omega (arith, e, ends, inner, given_bytes, size)) read)) stored_was in
        let shaped_v : has_shape v shape ≡ true = full_shape (is_fixed h.ground) h.ground.blocks h.memory b_at shape v stored_was full in
        let bytes_v : bytes v ≡ to.bytes
        = stored_bytes (is_fixed h.ground) h.ground.blocks h.memory b_at shape v stored_was shaped_v ∙ (origin.bytes ∙ sym size) in
        let item_then : IsItem x.table (store_with h r.memory) (call w.call.site (with_value w.to w.call.temps v) r.vars_then) (of_value w.to) v
        = record {
          there = may.there;
          plain = target_plain;
          shaped = λ asked. subst (λ s. has_shape v s ≡ true) (sym look) shaped_v;
          at = to_home (store_with h r.memory) w.call.site.base r.vars_then (looked x.table w.call.site (of_value w.to)) to v target_plain target_inside
              (subst (λ s. StoredIn (store_with h r.memory) a_at s v) (sym look) stored_now);
        } in
        let kept = same_more w.call.vars vars1 r.vars_then (same_first w.call.vars b.handed) r.kept in
        let s = b.some in
        let f = b.few in
        let few = r.few in
        settles_back x h w ws line rest y v last (suc (bytes v)) r.vars_then r.memory no_words FIRST
        (good_gets_item x h w ws line rest y v may.there r.vars_then r.memory no_words FIRST
        (memory_kept x left linked memory_now r.memory a_at to.bytes good_now r.changed lying)
        (heap_more h.memory memory_now r.memory (heap_left x h w ws line rest y)
        (heap_kept x left linked memory_now r.memory a_at to.bytes good_now r.changed lying))
        (somewhere a_at to.bytes (λ c word place before apart_c read. r.changed.outside c apart_c
        ∙ left_read x h w ws line rest y c word (omega (arith, before)) read) (inl refl) may.there target_inside (omega arith) (omega arith))
        (λ i u is ne e. kept.others u (place_high x w.call.site y.linked.5.0 i u is e)) kept.left item_then)
        (b.steps + r.steps) (omega (arith, s)) (omega (arith, f, few, bytes_v))
        (then_runs x.live (all_procs x) first_run r.runs)
      where
        -- the places that are left end before it
        beside : (c : ℕ) (t : Lying x (sites_left x h w ws line rest y) (linked_left x h w ws line rest y) c (house w.call.site (of_value w.to)).bytes)
            (b_at : ℕ) → b_at ≡ w.call.site.base + (n + room w.call.site.body)
            → InRange x.table x.blocks t.site c (house w.call.site (of_value w.to)).bytes → Separate c b_at (house w.call.site (of_value w.to)).bytes
        beside c t b_at e (inl r) =
            let d = x.small in
            let least = (site_at x.table x.blocks (sites_left x h w ws line rest y) w.call.site (linked_left x h w ws line rest y) (inl refl)).least in
            inr (inl (omega (arith, r.2, d, least, e)))
        beside c t b_at e (inr r) =
            let most = (site_at x.table x.blocks (sites_left x h w ws line rest y) t.site (linked_left x h w ws line rest y) t.among).most in
            inr (inl (omega (arith, r.1, most, e)))

    pub wanted_bits : Goes (suc (bytes v))
    wanted_bits = by origin.where_is
      where
        by : Housing (room h.call.site.body) FIXED_BYTES (data_end x.table x.blocks) h.call.site.body.start (house h.call.site (of_place p))
            → Settles x (starts (called x h w ws line rest) line rest) rest (Returns v (suc (bytes v)))
        by (in_variable u home plain high_u is_word) = never (sym no_word_given ∙ is_word)
        by (by_address u home address high_u) = never (sym item.plain ∙ address)
        by (in_places n home plain aligned within_it) = placed_bits n home
        by (in_data n home plain aligned low_end within_it start) = never (sym y.linked.1 ∙ start)
