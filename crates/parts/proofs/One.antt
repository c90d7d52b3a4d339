-- A contract that names a record's view leaves one record.
use mathlib.Core.Path.{◌≡◌}
use Rattle.parts.specs.declared.Rec.{Rec}
use Rattle.parts.specs.Records.{rec}

pub one_record : (r r' : Rec) → rec r ≡ rec r' → r ≡ r'
one_record r r' e = λ i. record {
  code = (e i).code;
  p = (e i).p;
  q = (e i).q;
  k = (e i).k;
  x = (e i).x;
}
