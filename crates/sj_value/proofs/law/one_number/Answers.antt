use Rattle.sj_json.proofs.Numbers.{number_sound, number_complete}
use Rattle.sj_value.proofs.law.one_number.Goals as goal

pub returns-clause-sound : goal.returns-clause-sound
returns-clause-sound c = number_sound

pub returns-clause-complete : goal.returns-clause-complete
returns-clause-complete c b v h = number_complete v b h
