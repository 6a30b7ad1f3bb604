-- What a refusal of the log of edits means for the manifest.
use Rattle.wp_gatelog.specs.declared.error.LogError.{LogError}
use Rattle.wp_gatelog.specs.declared.error.LogError.TheVariants as log
use Rattle.wp_manifest.specs.declared.error.ManifestError.{ManifestError}
use Rattle.wp_manifest.specs.declared.error.ManifestError.TheVariants.{Memory, DiskFault, BadHead, BadEdit}

abbrev pub manifest_error_of : LogError → ManifestError
manifest_error_of log.Memory = Memory
manifest_error_of log.DiskFault = DiskFault
manifest_error_of log.BadHead = BadHead
manifest_error_of (log.Cut index id) = BadEdit index
