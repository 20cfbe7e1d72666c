use Rattle.flattening.proofs.PlacePuts.{joined, three, listed_done}
use Rattle.flattening.proofs.program.places_of_body.Goals as goal

pub returns : goal.returns
returns c =
    listed_done c.new-places.result c.list_block.new.places _ c.finish.result c.new-places.ensures
    (joined _ _ c.put_params.ensures (three _ _ _ c.put_result_place.ensures c.declare_block.ensures c.list_block.ensures)) c.finish.ensures
