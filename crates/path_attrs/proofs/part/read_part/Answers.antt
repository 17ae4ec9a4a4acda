use Rattle.path_attrs.proofs.Reading.{part_found}
use Rattle.path_attrs.proofs.part.read_part.Goals as goal

pub returns-clause-found : goal.returns-clause-found
returns-clause-found c =
    part_found _ _ _ _ _ c.header_size-header.ensures c.value_size-length.ensures c.split_at.ensures.front c.split_at.ensures.back c.split_at.ensures.front_len
