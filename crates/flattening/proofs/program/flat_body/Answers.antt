use Rattle.std.proofs.Common.{List, ap₂, refl}
use Rattle.flat_code.specs.declared.code.CodeProc.{CodeProc}
use Rattle.flat_code.specs.declared.line.Line.{Line}
use Rattle.flat_code.specs.declared.place.FlatPlace.{FlatPlace}
use Rattle.flattening.proofs.program.flat_body.Goals as goal

pub returns : goal.returns
returns c =
    let make : List FlatPlace → List Line → CodeProc Line = λ places lines. record {
      first = c.args.body.now.first;
      span = c.args.body.now.places;
      places = places;
      lines = lines;
      hook = c.args.hook;
    } in
    ap₂ make c.in_ok-places.ensures (c.in_ok-lines.ensures refl)
