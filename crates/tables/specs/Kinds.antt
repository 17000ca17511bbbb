-- The kinds of stages by their words.
use Rattle.std.specs.Prelude.{ℕ, List, codes}
use Rattle.tables.specs.declared.bounds.StageKind.{StageKind}
use Rattle.tables.specs.declared.bounds.StageKind.TheVariants.{Server, Shaper, Join}

abbrev pub kind_word : StageKind → List ℕ
kind_word Server = codes "server"
kind_word Shaper = codes "shaper"
kind_word Join = codes "join"
