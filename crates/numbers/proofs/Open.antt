-- Every definition of this crate's specs/ that computing an example unfolds, under one name.
use Rattle.numbers.specs.Result.{◌>>=◌, need, because}
use Rattle.numbers.specs.Lists.{sum, every, alike}
use Rattle.numbers.specs.Words.{signed, low32, words, bytes, plus, minus, times, over, between, within, inside, equal}
use Rattle.numbers.specs.Areas.{word, put_word}

unfoldable pub numbers_open : Unit {0}
unfolding ◌>>=◌ need because sum every alike signed low32 words bytes plus minus times over between within inside equal word put_word
numbers_open = tt
