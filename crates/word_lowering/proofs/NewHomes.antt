-- A temporary gets a value that is made at its home: all other homes hold what they do, and are beside it.
use Rattle.std.proofs.Common.{◌≡◌, ◌≢◌, ◌⊎◌, inl, inr, ℕ, List, refl, sym, subst, arith}
use Rattle.nim_meaning.specs.Values.{Value}
use Rattle.flat_code.specs.declared.block.BlockLine.{BlockLine}
use Rattle.word_code.specs.RoutineTable.{Beside}
use Rattle.word_lowering.proofs.BlockHomes.{Home, home_bytes, SameOrApart, HomesHold}
use Rattle.word_lowering.proofs.GoodHomes.{HomeOf, among_sites, good_homes, home_at, homes_apart}
use Rattle.word_lowering.proofs.Keeping.{AmongCalls}
use Rattle.word_lowering.proofs.Lines.{Basis, IsGood, starts}
use Rattle.word_lowering.proofs.Related.{Both, calls_of, sites_of}
use Rattle.word_lowering.proofs.Scenes.{Call, HasValue, IsThere, Name, address_of, house, is_fixed, of_location, of_place, of_value, of_waiting}
use Rattle.word_lowering.proofs.Sites.{InMemory}
use Rattle.word_lowering.proofs.SitesApart.{Beside as BesideOf, houses, ranges_apart, site_at}

module _ (x : Basis) (g : Both) (line : BlockLine) (rest : List BlockLine) (y : IsGood x (starts g line rest)) (t : ℕ)
    (there : IsThere g.call.site (of_value t)) (inside : InMemory (house g.call.site (of_value t)).home) where
  abbrev here : Both
  here = starts g line rest

  abbrev pub at : ℕ
  at = address_of g.call.site.base (house g.call.site (of_value t)).home

  -- one of another name
  pub record OtherHome (h : Home) : Type 0 where
    pub home : HomeOf x here h
    pub other : (home.call.site.level ≢ g.call.site.level) ⊎ (home.name ≢ of_value t)

  pub others_apart : (a b : Home) → OtherHome a → OtherHome b → SameOrApart a b
  others_apart a b p q = homes_apart x here y a b p.home q.home

  pub others_hold : HomesHold (is_fixed g.ground) OtherHome others_apart g.ground.blocks g.world g.memory
  others_hold =
      let all = good_homes x here y in
      record { sized = all.sized; heap = all.heap; homes = λ h p. all.homes h p.home }

  -- where a home is
  home_is : (c : Call) (e : Name) (v : Value) → AmongCalls c (calls_of here) → IsThere c.site e → HasValue g.world c e v
      → ((home_at x here c e v).at ≡ address_of c.site.base (house c.site e).home) × (home_bytes (home_at x here c e v) ≡ (house c.site e).bytes)
  home_is c (of_value u) v i there has = (
    refl,
    (houses x.table x.blocks c.site (of_value u) (site_at x.table x.blocks (sites_of here) c.site y.linked (among_sites (calls_of here) c i)).body
        there).bytes,
  )
  home_is c (of_location u) v i there has = absurd has
  home_is c (of_place n) v i there has = (
    refl,
    (houses x.table x.blocks c.site (of_place n) (site_at x.table x.blocks (sites_of here) c.site y.linked (among_sites (calls_of here) c i)).body
        there).bytes,
  )
  home_is c (of_waiting n) v i there has = (
    refl,
    (houses x.table x.blocks c.site (of_waiting n) (site_at x.table x.blocks (sites_of here) c.site y.linked (among_sites (calls_of here) c i)).body
        there).bytes,
  )

  pub others_beside : (h : Home) → OtherHome h → Beside h.at (home_bytes h) at (house g.call.site (of_value t)).bytes
  others_beside h p =
      let q = p.home in
      subst (λ k. Beside k.at (home_bytes k) at (house g.call.site (of_value t)).bytes) (sym q.is)
      (by (home_is q.call q.name q.value q.among q.there q.has)
      (ranges_apart x.table x.blocks x.small (sites_of here) q.call.site g.call.site q.name (of_value t) y.linked (among_sites (calls_of here) q.call q.among)
      (inl refl) q.there there q.inside inside p.other))
    where
      by : ((home_at x here p.home.call p.home.name p.home.value).at ≡ address_of p.home.call.site.base (house p.home.call.site p.home.name).home)
          × (home_bytes (home_at x here p.home.call p.home.name p.home.value) ≡ (house p.home.call.site p.home.name).bytes)
          → BesideOf (address_of p.home.call.site.base (house p.home.call.site p.home.name).home) (house p.home.call.site p.home.name).bytes at
          (house g.call.site (of_value t)).bytes
          → Beside (home_at x here p.home.call p.home.name p.home.value).at (home_bytes (home_at x here p.home.call p.home.name p.home.value)) at
          (house g.call.site (of_value t)).bytes
      by m (inl h) = inl (omega (arith, h, m.0, m.1))
      by m (inr h) = inr (omega (arith, h, m.0, m.1))
