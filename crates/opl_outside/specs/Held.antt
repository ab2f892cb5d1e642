-- The files that a map in memory stands for.
use Rattle.std.specs.Option.{option_map}
use Rattle.std.specs.HashMap.{get_by_text}
use Rattle.opl_outside.specs.Files.{Files}
use Rattle.opl_outside.specs.declared.file_map.FileMap.{FileMap}

-- under each name the bytes that are kept for it
unfoldable pub held : FileMap → Files
held map name = option_map (λ bytes. bytes.items) (get_by_text map.files name)
