-- Every definition of this crate's specs/ that computing an example unfolds, under one name.
use Rattle.forms.specs.Form.{terms, value, coefficient, around, same, plus_one, along, put_at, moved_by, counter, limit, last, larger, most, largest, below}
use Rattle.numbers.proofs.Open.{numbers_open}

unfoldable pub forms_open : Unit {0}
unfolding numbers_open terms value coefficient around same plus_one along put_at moved_by counter limit last larger most largest below
forms_open = tt
