-- Each contract that gives a form leaves one answer: two of the code's forms that are seen as one form are one.
use mathlib.Core.Path.{◌≡◌}
use Rattle.forms.specs.declared.Form.{Form}
use Rattle.forms.specs.Code.{form}

pub one_form : (f g : Form) → form f ≡ form g → f ≡ g
one_form f g e = λ i. record { k = (e i).k; x = (e i).x }
