-- Versions that are borrowed from memory.
use Rattle.std.specs.Option.{option_copied}
use Rattle.wp_model.specs.declared.version.Version.{Version}
use Rattle.wp_memtable.specs.declared.version.MemoryVersion.{MemoryVersion}

-- the version that is borrowed
abbrev pub held : MemoryVersion → Version
held v = record { key = v.key.now; number = v.number; value = option_copied v.value }
