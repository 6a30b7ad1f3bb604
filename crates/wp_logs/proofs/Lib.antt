pub mod SeenLogs
