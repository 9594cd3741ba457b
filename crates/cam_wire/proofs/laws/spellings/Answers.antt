-- The laws of spellings.
use Rattle.cam_wire.proofs.Letters.{spellings_are_read, no_spelling_begins_another}
use Rattle.cam_wire.proofs.Prefixes.{bytes_behind_are_rest, faults_stay, proper_beginnings_are_short, none_begins_another, short_is_at_the_end}
use Rattle.cam_wire.proofs.Exactly.{read_is_spelled}
use Rattle.cam_wire.proofs.OneSet.{has_spelling}
use Rattle.cam_wire.proofs.Unique.{one_spelling, spelled_has_one_set}
use Rattle.cam_wire.proofs.laws.spellings.Goals as goal

pub returns-clause-read : goal.returns-clause-read
returns-clause-read c = spellings_are_read

pub returns-clause-rest : goal.returns-clause-rest
returns-clause-rest c = bytes_behind_are_rest

pub returns-clause-stays : goal.returns-clause-stays
returns-clause-stays c = faults_stay

pub returns-clause-beginnings : goal.returns-clause-beginnings
returns-clause-beginnings c = proper_beginnings_are_short

pub returns-clause-others : goal.returns-clause-others
returns-clause-others c = none_begins_another

pub returns-clause-spellings : goal.returns-clause-spellings
returns-clause-spellings c = no_spelling_begins_another

pub returns-clause-exactly : goal.returns-clause-exactly
returns-clause-exactly c = read_is_spelled

pub returns-clause-one : goal.returns-clause-one
returns-clause-one c = one_spelling

pub returns-clause-has : goal.returns-clause-has
returns-clause-has c = has_spelling

pub returns-clause-short : goal.returns-clause-short
returns-clause-short c = short_is_at_the_end

pub returns-clause-one_set : goal.returns-clause-one_set
returns-clause-one_set c = spelled_has_one_set
