use Rattle.sj_json.proofs.Distinct.{unique_from, unique_to}
use Rattle.sj_json.proofs.unique_keys.Goals as goal

pub returns : goal.returns
returns c t = (unique_from t, unique_to t)
