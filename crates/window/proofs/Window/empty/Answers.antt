-- `Window::empty` meets its contract: the words of 0 are 0. Assumes nothing.
use mathlib.Core.Path.{refl}
use Rattle.window.specs.Words.{words_of}
use Rattle.window.proofs.Window.empty.Goals as goal

pub returns : goal.returns
unfolding words_of
returns c = refl
